-- The commands that there are: one row each in this table, and the answers of each to an input.
use Rattle.std.specs.Prelude.{ℕ, Bool, true, false, List, [], ◌∷◌}
use Rattle.program_model.specs.declared.command.Command.{Command}
use Rattle.program_model.specs.declared.command.Command.TheVariants.{Plain, Live, Compare}
use Rattle.program_model.specs.declared.command.PlainCommand.{PlainCommand}
use Rattle.program_model.specs.declared.command.PlainCommand.TheVariants.{Script, Run, Gen, Check, Lead, Shape}
use Rattle.program_model.specs.Answer.{Answer}
use Rattle.program_model.specs.CheckCommand.{check_row, IsCheckAnswer}
use Rattle.program_model.specs.CompareCommand.{compare_row, IsCompareAnswer}
use Rattle.program_model.specs.GenCommand.{gen_row, IsGenAnswer}
use Rattle.program_model.specs.LeadCommand.{lead_row, IsLeadAnswer}
use Rattle.program_model.specs.LiveCommand.{live_row, IsLiveAnswer}
use Rattle.program_model.specs.Options.{CommandRow}
use Rattle.program_model.specs.RunCommand.{run_row, IsRunAnswer}
use Rattle.program_model.specs.ScriptCommand.{script_row, IsScriptAnswer}
use Rattle.program_model.specs.ShapeCommand.{shape_row, IsShapeAnswer}

-- the table by which the program's words are read
abbrev pub built_commands : List (CommandRow Command)
built_commands = script_row ∷ run_row ∷ live_row ∷ gen_row ∷ check_row ∷ lead_row ∷ shape_row ∷ compare_row ∷ []

-- The part of the program that serves a command.

-- one that needs no threads
abbrev pub is_plain : Command → Bool
is_plain (Plain command) = true
is_plain (Live options) = false
is_plain (Compare options) = false

-- one that waits for threads, and asks a clock
abbrev pub is_live : Command → Bool
is_live (Plain command) = false
is_live (Live options) = true
is_live (Compare options) = false

-- one that has threads work for it, which wait for nobody, and asks no clock
abbrev pub is_compare : Command → Bool
is_compare (Plain command) = false
is_compare (Live options) = false
is_compare (Compare options) = true

-- The row of a command.

abbrev pub plain_row_of : PlainCommand → CommandRow Command
plain_row_of (Script print) = script_row
plain_row_of (Run options slot print) = run_row
plain_row_of (Gen seed tenants requests print) = gen_row
plain_row_of (Check explain) = check_row
plain_row_of (Lead of over) = lead_row
plain_row_of (Shape rate burst) = shape_row

abbrev pub row_of : Command → CommandRow Command
row_of (Plain command) = plain_row_of command
row_of (Live options) = live_row
row_of (Compare options) = compare_row

-- the command reads an input
abbrev pub reads_input : Command → Bool
reads_input command = (row_of command).reads_input

-- The answers of a command to an input. (A command that reads no input has the empty one.)

abbrev pub IsPlainAnswer : PlainCommand → List ℕ → Answer → Type 0
IsPlainAnswer (Script print) input answer = IsScriptAnswer print input answer
IsPlainAnswer (Run options slot print) input answer = IsRunAnswer options slot print input answer
IsPlainAnswer (Gen seed tenants requests print) input answer = IsGenAnswer seed tenants requests print answer
IsPlainAnswer (Check explain) input answer = IsCheckAnswer explain input answer
IsPlainAnswer (Lead of over) input answer = IsLeadAnswer of over input answer
IsPlainAnswer (Shape rate burst) input answer = IsShapeAnswer rate burst input answer

-- this is an answer of the command to this input, at moments that a clock gives
abbrev pub IsAnswer : (ℕ → Type 0) → Command → List ℕ → Answer → Type 0
IsAnswer Told (Plain command) input answer = IsPlainAnswer command input answer
IsAnswer Told (Live options) input answer = IsLiveAnswer Told options input answer
IsAnswer Told (Compare options) input answer = IsCompareAnswer options input answer

-- the moments of a clock that is not asked: none
abbrev pub Untold : ℕ → Type 0
Untold moment = ⊥
