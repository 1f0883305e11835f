-- The result of a command's module: an answer among these, or that memory ran out.
use Rattle.std.specs.Prelude.{ℕ, ◌≡◌, List, Result, Ok, Err}
use Rattle.std.specs.String.{string_bytes}
use Rattle.program_model.specs.declared.ending.Output.{Output}
use Rattle.program_model.specs.declared.ending.Stop.{Stop}
use Rattle.program_model.specs.declared.ending.Stop.TheVariants as stops
use Rattle.program_model.specs.Answer.{Answer, Text, Message, fault_answer}
use Rattle.program_model.specs.FaultTexts.{fault_text, trace_fault_text}
use Rattle.program_model.specs.TraceCommand.{IsTraceAnswer}
use Rattle.journal_text.specs.declared.fault.ScriptFault.{ScriptFault}
use Rattle.journal_text.specs.declared.fault.ScriptFault.TheVariants as documents
use Rattle.trace_reader.specs.declared.fault.TraceFault.{TraceFault}
use Rattle.trace_reader.specs.declared.fault.TraceFault.TheVariants as traces

-- the stop is such an answer, or memory ran out
abbrev pub IsStop : (Answer → Type 0) → Stop → Type 0
IsStop Is (stops.Message status message) = Is (Message status (string_bytes message))
IsStop Is stops.NoMemory = Unit {0}

-- the text is such an answer, or the stop is one
abbrev pub Makes : (Answer → Type 0) → Result Output Stop → Type 0
Makes Is (Ok output) = Is (Text output.status output.text.items)
Makes Is (Err stop) = IsStop Is stop

-- the answer names this fault of a trace
abbrev pub TellsTraceFault : TraceFault → Answer → Type 0
TellsTraceFault (traces.At line kind) answer = answer ≡ fault_answer line (trace_fault_text kind)
TellsTraceFault traces.NoMemory answer = ⊥

-- the answer names this fault of a script or a journal, which is its title
abbrev pub TellsDocumentFault : List ℕ → ScriptFault → Answer → Type 0
TellsDocumentFault title (documents.At line kind) answer = answer ≡ fault_answer line (fault_text title kind)
TellsDocumentFault title documents.NoMemory answer = ⊥

-- the answer names the first fault of an input that is no trace
abbrev pub IsTraceFault : List ℕ → Answer → Type 0
IsTraceFault input answer = IsTraceAnswer (λ trace other. ⊥) input answer
