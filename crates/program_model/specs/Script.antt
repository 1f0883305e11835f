-- Scripts: documents whose body is the calls that are made on the scheduler, one a line.
use Rattle.std.specs.Prelude.{ℕ, if◌then◌else◌, List, Result, Ok, Err, codes}
use Rattle.fq_model.specs.declared.event.Call.{Call}
use Rattle.fq_model.specs.declared.event.Call.TheVariants as calls
use Rattle.program_model.specs.declared.fault.ScriptKind.{ScriptKind}
use Rattle.program_model.specs.declared.fault.ScriptKind.TheVariants.{Word}
use Rattle.program_model.specs.declared.version.Version.{Version}
use Rattle.program_model.specs.declared.version.Version.TheVariants.{First, Second, Third}
use Rattle.program_model.specs.Reading.{◌>>=◌, begins_with}
use Rattle.program_model.specs.Lines.{Words, with_count, number_at, index_at}
use Rattle.program_model.specs.Document.{Document, document_of}

-- its body is the calls in order
abbrev pub Script : Type 0
Script = Document Call

-- `submit <who> <moment> <tenant> <kind> <declared> <label>`
unfoldable pub submit_of : Words → Result Call ScriptKind
submit_of line = do
  words ← with_count 7 line
  who ← index_at words 1
  moment ← number_at words 2
  tenant ← index_at words 3
  kind ← index_at words 4
  declared ← number_at words 5
  label ← number_at words 6
  Ok (calls.Submit who moment tenant kind declared label)

-- `take <who> <moment> <worker>`
unfoldable pub take_of : Words → Result Call ScriptKind
take_of line = do
  words ← with_count 4 line
  who ← index_at words 1
  moment ← number_at words 2
  worker ← index_at words 3
  Ok (calls.Take who moment worker)

-- `report <who> <moment> <worker> <used>`
unfoldable pub report_of : Words → Result Call ScriptKind
report_of line = do
  words ← with_count 5 line
  who ← index_at words 1
  moment ← number_at words 2
  worker ← index_at words 3
  used ← number_at words 4
  Ok (calls.Report who moment worker used)

-- `done <who> <moment> <worker> <cost>`
unfoldable pub done_of : Words → Result Call ScriptKind
done_of line = do
  words ← with_count 5 line
  who ← index_at words 1
  moment ← number_at words 2
  worker ← index_at words 3
  cost ← number_at words 4
  Ok (calls.Done who moment worker cost)

-- `close <who> <moment>`
unfoldable pub close_of : Words → Result Call ScriptKind
close_of line = do
  words ← with_count 3 line
  who ← index_at words 1
  moment ← number_at words 2
  Ok (calls.Close who moment)

-- `weight <who> <moment> <tenant> <weight>`
unfoldable pub weight_of : Words → Result Call ScriptKind
weight_of line = do
  words ← with_count 5 line
  who ← index_at words 1
  moment ← number_at words 2
  tenant ← index_at words 3
  weight ← index_at words 4
  Ok (calls.Weight who moment tenant weight)

-- `workers <who> <moment> <count>`
unfoldable pub workers_of : Words → Result Call ScriptKind
workers_of line = do
  words ← with_count 4 line
  who ← index_at words 1
  moment ← number_at words 2
  count ← index_at words 3
  Ok (calls.Workers who moment count)

-- `withdraw <who> <moment> <request>`
unfoldable pub withdraw_of : Words → Result Call ScriptKind
withdraw_of line = do
  words ← with_count 4 line
  who ← index_at words 1
  moment ← number_at words 2
  request ← index_at words 3
  Ok (calls.Withdraw who moment request)

-- the call of a line, where neither weights nor the number of workers change
unfoldable pub fixed_call_of : Words → Result Call ScriptKind
fixed_call_of words =
    if begins_with words (codes "submit") then submit_of words
    else if begins_with words (codes "take") then take_of words
    else if begins_with words (codes "report") then report_of words
    else if begins_with words (codes "done") then done_of words
    else if begins_with words (codes "close") then close_of words
    else Err Word

-- the call of a line, where they may change
unfoldable pub changing_call_of : Words → Result Call ScriptKind
changing_call_of words =
    if begins_with words (codes "weight") then weight_of words
    else if begins_with words (codes "workers") then workers_of words
    else fixed_call_of words

-- the call of a line, where they may change and requests may be withdrawn
unfoldable pub withdrawing_call_of : Words → Result Call ScriptKind
withdrawing_call_of words =
    if begins_with words (codes "withdraw") then withdraw_of words else changing_call_of words

-- the call of a line of this version
abbrev pub call_of_words : Version → Words → Result Call ScriptKind
call_of_words First words = fixed_call_of words
call_of_words Second words = changing_call_of words
call_of_words Third words = withdrawing_call_of words

-- the script that a text spells, or its first fault
abbrev pub script_of : List ℕ → Result Script (ℕ × ScriptKind)
script_of bytes = document_of (codes "script") call_of_words bytes
