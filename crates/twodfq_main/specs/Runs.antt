-- A call of the program, or of a part of it that serves some of the commands.
use Rattle.std.specs.Prelude.{ℕ, ◌≡◌, Bool, Option, Result}
use Rattle.program_model.specs.declared.command.Command.{Command}
use Rattle.program_model.specs.declared.ending.Failure.{Failure}
use Rattle.program_model.specs.Lines.{Words as Line}
use Rattle.program_model.specs.Program.{Move, Later, asked, Ends, IsRun}
use Rattle.program_model.specs.Statuses.{StatusMeans}

-- The program, which serves these commands, ran the words over a clock that may tell these moments: it ran the command
-- that the words ask for, if there is one, its exit status means what its number says, and the sink has the room that
-- it had
pub record Runs
    (serves : Command → Bool) (Told : ℕ → Type 0) (words : Line) (source sink errs : Move)
    (room room2 : Option ℕ) (exit : ℕ) : Type 0 where
  pub run : IsRun Told (asked serves words) source sink errs exit
  pub status : StatusMeans Told (asked serves words) source sink exit
  pub sink_room : room2 ≡ room

-- The command, if there is one, ended so. The faults of the source and of the sink did not fall, and the sink has the
-- room that it had
pub record EndsAs
    (Told : ℕ → Type 0) (ask : Option Command) (source sink : Move)
    (room room2 : Option ℕ) (end : Result ℕ Failure) : Type 0 where
  pub ends : Ends Told ask source sink end
  pub source_later : Later source
  pub sink_later : Later sink
  pub sink_room : room2 ≡ room
