-- The input of a command, as it was read from its source, and the causes for which it was not read.
use Rattle.std.specs.Prelude.{ℕ, ◌≤◌, Bool, List, length}
use Rattle.program_model.specs.declared.ending.Failure.{Failure}
use Rattle.program_model.specs.declared.ending.Failure.TheVariants.{Words, TooLong, Reading, Writing, Stopped}
use Rattle.program_model.specs.declared.ending.Stop.TheVariants.{Message, NoMemory}
use Rattle.program_model.specs.Program.{Move, ReadsInput, ReadsSome, ReadsTooMuch, FailsReading, greatest_input}

-- this is the input of a command that reads one, or of one that reads none
pub record IsInput (reads : Bool) (source : Move) (input : List ℕ) : Type 0 where
  pub read : ReadsInput reads source input
  pub within : length input ≤ greatest_input
  pub taken : ReadsSome reads source

-- the input was not read whole, since a read failed, more bytes came than there may be, or memory ran out
abbrev pub IsNoInput : Bool → Move → Failure → Type 0
IsNoInput reads source Reading = FailsReading reads source
IsNoInput reads source TooLong = ReadsTooMuch reads source
IsNoInput reads source (Stopped NoMemory) = ReadsSome reads source
IsNoInput reads source (Stopped (Message status message)) = ⊥
IsNoInput reads source Words = ⊥
IsNoInput reads source Writing = ⊥
