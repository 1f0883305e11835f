-- Journals read back: documents whose body is the entries of a history, one a line; and the call that made an entry.
use Rattle.std.specs.Prelude.{ℕ, if◌then◌else◌, List, Result, Ok, Err, codes}
use Rattle.fq_model.specs.declared.event.Act.{Act}
use Rattle.fq_model.specs.declared.event.Act.TheVariants.{Submit, Take, Report, Done, Close, Weight, Workers, Withdraw}
use Rattle.fq_model.specs.declared.event.Call.{Call}
use Rattle.fq_model.specs.declared.event.Call.TheVariants as calls
use Rattle.fq_model.specs.declared.event.Entry.{Entry}
use Rattle.program_model.specs.declared.fault.ScriptKind.{ScriptKind}
use Rattle.program_model.specs.declared.fault.ScriptKind.TheVariants.{Word}
use Rattle.program_model.specs.declared.version.Version.{Version}
use Rattle.program_model.specs.declared.version.Version.TheVariants.{First, Second, Third}
use Rattle.program_model.specs.Reading.{◌>>=◌, begins_with}
use Rattle.program_model.specs.Lines.{Words, with_count, number_at, index_at}
use Rattle.program_model.specs.Document.{Document, document_of}

-- its body is the entries, in the order of the lines
abbrev pub Journal : Type 0
Journal = Document Entry

-- `submit <who> <moment> <request> <tenant> <kind> <declared> <label>`
unfoldable pub submit_act : Words → Result Act ScriptKind
submit_act words = do
  request ← index_at words 3
  tenant ← index_at words 4
  kind ← index_at words 5
  declared ← number_at words 6
  label ← number_at words 7
  Ok (Submit request tenant kind declared label)

-- `take <who> <moment> <worker> <request> <estimate>`
unfoldable pub take_act : Words → Result Act ScriptKind
take_act words = do
  worker ← index_at words 3
  request ← index_at words 4
  estimate ← number_at words 5
  Ok (Take worker request estimate)

-- `report <who> <moment> <worker> <request> <used>`
unfoldable pub report_act : Words → Result Act ScriptKind
report_act words = do
  worker ← index_at words 3
  request ← index_at words 4
  used ← number_at words 5
  Ok (Report worker request used)

-- `done <who> <moment> <worker> <request> <cost>`
unfoldable pub done_act : Words → Result Act ScriptKind
done_act words = do
  worker ← index_at words 3
  request ← index_at words 4
  cost ← number_at words 5
  Ok (Done worker request cost)

-- `close <who> <moment>`
unfoldable pub close_act : Words → Result Act ScriptKind
close_act words = Ok Close

-- `weight <who> <moment> <tenant> <weight>`
unfoldable pub weight_act : Words → Result Act ScriptKind
weight_act words = do
  tenant ← index_at words 3
  weight ← index_at words 4
  Ok (Weight tenant weight)

-- `workers <who> <moment> <count>`
unfoldable pub workers_act : Words → Result Act ScriptKind
workers_act words = do
  count ← index_at words 3
  Ok (Workers count)

-- `withdraw <who> <moment> <request>`
unfoldable pub withdraw_act : Words → Result Act ScriptKind
withdraw_act words = do
  request ← index_at words 3
  Ok (Withdraw request)

-- the entry of a line of this many words: its caller, its moment, and its act
unfoldable pub entry_with : ℕ → (Words → Result Act ScriptKind) → Words → Result Entry ScriptKind
entry_with count act_of line = do
  words ← with_count count line
  who ← index_at words 1
  moment ← number_at words 2
  act ← act_of words
  Ok (record { who = who; moment = moment; act = act })

-- the entry of a line, where neither weights nor the number of workers change
unfoldable pub fixed_entry_of : Words → Result Entry ScriptKind
fixed_entry_of words =
    if begins_with words (codes "submit") then entry_with 8 submit_act words
    else if begins_with words (codes "take") then entry_with 6 take_act words
    else if begins_with words (codes "report") then entry_with 6 report_act words
    else if begins_with words (codes "done") then entry_with 6 done_act words
    else if begins_with words (codes "close") then entry_with 3 close_act words
    else Err Word

-- the entry of a line, where they may change
unfoldable pub changing_entry_of : Words → Result Entry ScriptKind
changing_entry_of words =
    if begins_with words (codes "weight") then entry_with 5 weight_act words
    else if begins_with words (codes "workers") then entry_with 4 workers_act words
    else fixed_entry_of words

-- the entry of a line, where they may change and requests may be withdrawn
unfoldable pub withdrawing_entry_of : Words → Result Entry ScriptKind
withdrawing_entry_of words =
    if begins_with words (codes "withdraw") then entry_with 4 withdraw_act words else changing_entry_of words

-- the entry of a line of this version
abbrev pub entry_of_words : Version → Words → Result Entry ScriptKind
entry_of_words First words = fixed_entry_of words
entry_of_words Second words = changing_entry_of words
entry_of_words Third words = withdrawing_entry_of words

-- the journal that a text spells, or its first fault
abbrev pub journal_of : List ℕ → Result Journal (ℕ × ScriptKind)
journal_of bytes = document_of (codes "journal") entry_of_words bytes

-- the call of an act by this caller at this moment
abbrev pub call_of_act : ℕ → ℕ → Act → Call
call_of_act who moment (Submit request tenant kind declared label) = calls.Submit who moment tenant kind declared label
call_of_act who moment (Take worker request estimate) = calls.Take who moment worker
call_of_act who moment (Report worker request used) = calls.Report who moment worker used
call_of_act who moment (Done worker request cost) = calls.Done who moment worker cost
call_of_act who moment Close = calls.Close who moment
call_of_act who moment (Weight tenant weight) = calls.Weight who moment tenant weight
call_of_act who moment (Workers count) = calls.Workers who moment count
call_of_act who moment (Withdraw request) = calls.Withdraw who moment request

-- the call whose entry this may be: with its caller, its moment, and the part of its act that a caller names
abbrev pub call_of : Entry → Call
call_of e = call_of_act e.who e.moment e.act
