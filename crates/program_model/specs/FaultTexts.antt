-- The texts of the faults of scripts, journals and traces.
use Rattle.std.specs.Prelude.{ℕ, List, ◌++◌, codes}
use Rattle.std.specs.Fmt.{decimal}
use Rattle.program_model.specs.declared.fault.ScriptKind.{ScriptKind}
use Rattle.program_model.specs.declared.fault.ScriptKind.TheVariants.{Word, Fields, Number, Range, Twice, TooMany, Header, Missing}
use Rattle.program_model.specs.declared.fault.TraceKind.{TraceKind}
use Rattle.program_model.specs.declared.fault.TraceKind.TheVariants as traces

-- a fault in a text with this title, `script` or `journal`
abbrev pub fault_text : List ℕ → ScriptKind → List ℕ
fault_text title Header = codes "not a " ++ title
fault_text title Word = codes "unknown word or name"
fault_text title (Fields n) = decimal n ++ codes " fields"
fault_text title (Number field) = codes "field " ++ decimal field ++ codes " is not a number"
fault_text title (Range field) = codes "field " ++ decimal field ++ codes " is out of range"
fault_text title Twice = codes "named twice"
fault_text title TooMany = codes "too many"
fault_text title Missing = codes "the " ++ title ++ codes " ends in its head"

-- a fault in a script
abbrev pub script_fault_text : ScriptKind → List ℕ
script_fault_text fault = fault_text (codes "script") fault

-- a fault in a journal
abbrev pub journal_fault_text : ScriptKind → List ℕ
journal_fault_text fault = fault_text (codes "journal") fault

-- a fault in a trace
abbrev pub trace_fault_text : TraceKind → List ℕ
trace_fault_text traces.NotUtf8 = codes "not UTF-8"
trace_fault_text traces.Word = codes "unknown word or name"
trace_fault_text (traces.Fields n) = decimal n ++ codes " fields"
trace_fault_text (traces.Number field) = codes "field " ++ decimal field ++ codes " is not a number"
trace_fault_text (traces.Range field) = codes "field " ++ decimal field ++ codes " is out of range"
trace_fault_text traces.UnknownTenant = codes "unknown tenant"
trace_fault_text traces.Twice = codes "named twice"
trace_fault_text traces.Backward = codes "moment goes back"
trace_fault_text traces.TooMany = codes "too many"
trace_fault_text traces.NoTenants = codes "no tenants"

-- the text of a fault with its line
abbrev pub placed_text : ℕ → List ℕ → List ℕ
placed_text line text = codes "line " ++ decimal line ++ codes ": " ++ text
