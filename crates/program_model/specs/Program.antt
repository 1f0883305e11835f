-- A run of the program: its effect on its input, its output and its messages, by the command and by the moments that
-- its clock may give.
use Rattle.std.specs.Prelude.{ℕ, ◌+◌, ◌≤◌, ◌≡◌, Bool, true, false, if◌then◌else◌, List, [], length, Option, Some, None, Result, Ok, Err, ◌⊎◌}
use Rattle.std.specs.String.{string_bytes}
use Rattle.std.specs.Io.KnownBytes.{Appends}
use Rattle.fq_io.specs.Faults.{Rose}
use Rattle.fq_io.specs.Sources.{GaveAll, TookAtMost, TookTooMany}
use Rattle.fq_io.specs.Sinks.{AppendsPart}
use Rattle.program_model.specs.declared.command.Command.{Command}
use Rattle.program_model.specs.declared.ending.Failure.{Failure}
use Rattle.program_model.specs.declared.ending.Failure.TheVariants.{Words, TooLong, Reading, Writing, Stopped}
use Rattle.program_model.specs.declared.ending.Stop.TheVariants as stops
use Rattle.program_model.specs.Answer.{Answer, Text, Message}
use Rattle.program_model.specs.Commands.{reads_input, built_commands, IsAnswer}
use Rattle.program_model.specs.Ending.{status_of, failure_message}
use Rattle.program_model.specs.Lines.{Words as Line}
use Rattle.program_model.specs.Options.{command_of}

-- The command.

-- the command that is asked of a part of the program that serves these commands, if it is one of these
abbrev pub if_served : (Command → Bool) → Option Command → Option Command
if_served serves None = None
if_served serves (Some command) = if serves command then Some command else None

-- the command that the words, without the program's name, ask of it: if they are a line of the table of commands, and
-- the command is one of those that it serves
abbrev pub asked : (Command → Bool) → Line → Option Command
asked serves words = if_served serves (command_of built_commands words)

-- all commands
abbrev pub is_any : Command → Bool
is_any command = true

-- Sources and sinks.

-- the greatest length of an input, in bytes
abbrev pub greatest_input : ℕ
greatest_input = 67108864

-- a source or a sink before and after a call: the bytes that it shows, and its count of faults
pub record Device : Type 0 where
  pub bytes : Option (List ℕ)
  pub faults : ℕ

pub record Move : Type 0 where
  pub before : Device
  pub after : Device

-- how a call moved it from `old` to `new`, as `bytes` and `faults` show
abbrev pub moved : {D : Type 0} → (D → Option (List ℕ)) → (D → ℕ) → D → D → Move
moved bytes faults old new = record {
  before = record { bytes = bytes old; faults = faults old };
  after = record { bytes = bytes new; faults = faults new };
}

-- the call left it as it was
abbrev pub Stays : Move → Type 0
Stays device = device.after ≡ device.before

-- its count of faults rose
abbrev pub Fails : Move → Type 0
Fails device = Rose device.before.faults device.after.faults

-- its count of faults did not fall
abbrev pub Later : Move → Type 0
Later device = device.before.faults ≤ device.after.faults

-- this text was written to it
abbrev pub Writes : Move → List ℕ → Type 0
Writes sink text = Appends sink.before.bytes sink.after.bytes text

-- a front part of this text was written to it, and writing failed
abbrev pub WritesPart : Move → List ℕ → Type 0
WritesPart sink text = Fails sink × AppendsPart sink.before.bytes sink.after.bytes text

-- at most this number of bytes was read from it
abbrev pub ReadsAtMost : Move → ℕ → Type 0
ReadsAtMost source n = TookAtMost source.before.bytes source.after.bytes n

-- The bytes that a command reads, where it reads an input or none.

-- this input, to its end; or nothing, and its input is empty
abbrev pub ReadsInput : (reads : Bool) → Move → List ℕ → Type 0
ReadsInput true source input = GaveAll source.before.bytes source.after.bytes input
ReadsInput false source input = Stays source × (input ≡ [])

-- a read failed, which came after no more bytes than an input may have
abbrev pub FailsReading : (reads : Bool) → Move → Type 0
FailsReading true source = Fails source × ReadsAtMost source greatest_input
FailsReading false source = ⊥

-- more bytes came than an input may have
abbrev pub ReadsTooMuch : (reads : Bool) → Move → Type 0
ReadsTooMuch true source = TookTooMany source.before.bytes source.after.bytes greatest_input
ReadsTooMuch false source = ⊥

-- it stopped while it read, or after
abbrev pub ReadsSome : (reads : Bool) → Move → Type 0
ReadsSome true source = ReadsAtMost source (greatest_input + 1)
ReadsSome false source = Stays source

-- How a command ends.

-- an input was read whole, and this is an answer to it
pub record IsAnswered (Told : ℕ → Type 0) (command : Command) (source : Move) (answer : Answer) : Type 0 where
  pub input : List ℕ
  pub read : ReadsInput (reads_input command) source input
  pub within : length input ≤ greatest_input
  pub is_answer : IsAnswer Told command input answer

-- the answer is a text at this status, and all of it was written
pub record Succeeds (Told : ℕ → Type 0) (command : Command) (source sink : Move) (status : ℕ) : Type 0 where
  pub text : List ℕ
  pub answered : IsAnswered Told command source (Text status text)
  pub wrote : Writes sink text

-- the answer is a text, and writing failed: the sink's faults rose, and a front part of the text was written
pub record FailsWriting (Told : ℕ → Type 0) (command : Command) (source sink : Move) : Type 0 where
  pub status : ℕ
  pub text : List ℕ
  pub answered : IsAnswered Told command source (Text status text)
  pub wrote : WritesPart sink text

-- when each end of a command comes, and the state in which it leaves the source and the sink. Want of memory may
-- come at any step before writing.
abbrev pub EndsCommand : (ℕ → Type 0) → Command → Move → Move → Result ℕ Failure → Type 0
EndsCommand Told command source sink (Ok status) = Succeeds Told command source sink status
EndsCommand Told command source sink (Err Words) = ⊥
EndsCommand Told command source sink (Err Reading) = FailsReading (reads_input command) source × Stays sink
EndsCommand Told command source sink (Err TooLong) = ReadsTooMuch (reads_input command) source × Stays sink
EndsCommand Told command source sink (Err Writing) = FailsWriting Told command source sink
EndsCommand Told command source sink (Err (Stopped (stops.Message status message))) =
    IsAnswered Told command source (Message status (string_bytes message)) × Stays sink
EndsCommand Told command source sink (Err (Stopped stops.NoMemory)) =
    ReadsSome (reads_input command) source × Stays sink

-- when each end comes, by the command: where there is none, neither source nor sink is called
abbrev pub Ends : (ℕ → Type 0) → Option Command → Move → Move → Result ℕ Failure → Type 0
Ends Told (Some command) source sink end = EndsCommand Told command source sink end
Ends Told None source sink end = (end ≡ Err Words) × Stays source × Stays sink

-- the message was written, or a front part of it where that failed; a fault of the messages changes nothing else
abbrev pub Says : Move → List ℕ → Type 0
Says errs message = Writes errs message ⊎ WritesPart errs message

abbrev pub TellsEnd : Move → Result ℕ Failure → Type 0
TellsEnd errs (Ok status) = Stays errs
TellsEnd errs (Err failure) = Says errs (failure_message failure)

-- a run of the program that is asked for this, over a clock that may give these moments: it ends in some way,
-- with that status and that message
pub record IsRun (Told : ℕ → Type 0) (ask : Option Command) (source sink errs : Move) (status : ℕ) : Type 0 where
  pub end : Result ℕ Failure
  pub ends : Ends Told ask source sink end
  pub status_is : status ≡ status_of end
  pub told : TellsEnd errs end
  pub source_later : Later source
  pub sink_later : Later sink
  pub errs_later : Later errs
