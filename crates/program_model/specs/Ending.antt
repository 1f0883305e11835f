-- How the program ends: the status and the message of each end.
use Rattle.std.specs.Prelude.{ℕ, List, Result, Ok, Err, codes}
use Rattle.std.specs.String.{string_bytes}
use Rattle.fq_io.specs.declared.reading.ReadAllFault.{ReadAllFault}
use Rattle.fq_io.specs.declared.reading.ReadAllFault.TheVariants as reading
use Rattle.program_model.specs.declared.ending.Failure.{Failure}
use Rattle.program_model.specs.declared.ending.Failure.TheVariants.{Words, TooLong, Reading, Writing, Stopped}
use Rattle.program_model.specs.declared.ending.Stop.{Stop}
use Rattle.program_model.specs.declared.ending.Stop.TheVariants.{Message, NoMemory}

-- the status of a command that has no text for its input
abbrev pub stop_status : Stop → ℕ
stop_status (Message status message) = status
stop_status NoMemory = 6

-- its message, one line
abbrev pub stop_message : Stop → List ℕ
stop_message (Message status message) = string_bytes message
stop_message NoMemory = codes "twodfq: out of memory\n"

abbrev pub failure_status : Failure → ℕ
failure_status Words = 2
failure_status TooLong = 3
failure_status Reading = 4
failure_status Writing = 5
failure_status (Stopped stop) = stop_status stop

abbrev pub failure_message : Failure → List ℕ
failure_message Words = codes "twodfq: the words are not a command line\n"
failure_message TooLong = codes "twodfq: input longer than 67108864 bytes\n"
failure_message Reading = codes "twodfq: reading failed\n"
failure_message Writing = codes "twodfq: writing failed\n"
failure_message (Stopped stop) = stop_message stop

-- the status of an end: that of the text that was written, or of the failure
abbrev pub status_of : Result ℕ Failure → ℕ
status_of (Ok status) = status
status_of (Err failure) = failure_status failure

-- where an input is not read whole
abbrev pub reading_failure : ReadAllFault → Failure
reading_failure reading.ReadFault = Reading
reading_failure (reading.TooLong limit) = TooLong
reading_failure reading.NoMemory = Stopped NoMemory
