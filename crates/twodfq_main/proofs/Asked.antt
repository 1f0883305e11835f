-- The command that is asked for ends as it does in the part of the program that serves it.
use Rattle.std.proofs.Common.{ℕ, ◌≡◌, sym, refl, Bool, List, true, false, Option, Some, None, is_some, Result, Ok, Err}
use Rattle.std.proofs.lemmas.Bool.{false≢true}
use Rattle.std.specs.String.{string_bytes}
use Rattle.program_model.specs.declared.command.Command.{Command}
use Rattle.program_model.specs.declared.command.Command.TheVariants.{Plain, Live, Compare}
use Rattle.program_model.specs.declared.ending.Failure.{Failure}
use Rattle.program_model.specs.declared.ending.Failure.TheVariants.{Words, TooLong, Reading, Writing, Stopped}
use Rattle.program_model.specs.declared.ending.Stop.TheVariants as stops
use Rattle.program_model.specs.Answer.{Answer, Text, Message}
use Rattle.program_model.specs.Commands.{is_plain, is_live, is_compare, IsAnswer}
use Rattle.program_model.specs.Lines.{Words as Line}
use Rattle.program_model.specs.Program.{Move, if_served, is_any, IsAnswered, Ends, EndsCommand, IsRun, asked}
use Rattle.command_texts.proofs.Runs.{run_means}
use Rattle.twodfq_main.specs.Runs.{Runs}

-- for any clocks A and B
module _ (A B : ℕ → Type 0) where
  -- a command that asks no clock answers alike under both
  answers_alike : (command : Command) (input : List ℕ) (answer : Answer) → is_live command ≡ false → IsAnswer A command input answer → IsAnswer B command input answer
  answers_alike (Plain command) input answer unasked x = x
  answers_alike (Live options) input answer unasked x = absurd (false≢true (sym unasked))
  answers_alike (Compare options) input answer unasked x = x

  answered_alike : (command : Command) (source : Move) (answer : Answer) → is_live command ≡ false → IsAnswered A command source answer → IsAnswered B command source answer
  answered_alike command source answer unasked x = record { input = x.input; read = x.read; within = x.within; is_answer = answers_alike command x.input answer unasked x.is_answer }

  -- so it ends alike
  ends_alike : (command : Command) (source sink : Move) (end : Result ℕ Failure) → is_live command ≡ false → EndsCommand A command source sink end → EndsCommand B command source sink end
  ends_alike command source sink (Ok status) unasked x = record { text = x.text; answered = answered_alike command source (Text status x.text) unasked x.answered; wrote = x.wrote }
  ends_alike command source sink (Err Words) unasked x = x
  ends_alike command source sink (Err Reading) unasked x = x
  ends_alike command source sink (Err TooLong) unasked x = x
  ends_alike command source sink (Err Writing) unasked x = record { status = x.status; text = x.text; answered = answered_alike command source (Text x.status x.text) unasked x.answered; wrote = x.wrote }
  ends_alike command source sink (Err (Stopped (stops.Message status message))) unasked x = (answered_alike command source (Message status (string_bytes message)) unasked x.0, x.1)
  ends_alike command source sink (Err (Stopped stops.NoMemory)) unasked x = x

  -- the command is neither `live` nor `compare`, and ended so
  pub plain_ends : (ask : Option Command) (source sink : Move) (end : Result ℕ Failure) → is_some (if_served is_live ask) ≡ false → is_some (if_served is_compare ask) ≡ false → Ends A (if_served is_plain ask) source sink end → Ends B (if_served is_any ask) source sink end
  plain_ends None source sink end waits compares x = x
  plain_ends (Some (Plain command)) source sink end waits compares x = ends_alike (Plain command) source sink end refl x
  plain_ends (Some (Live options)) source sink end waits compares x = absurd (false≢true (sym waits))
  plain_ends (Some (Compare options)) source sink end waits compares x = absurd (false≢true (sym compares))

  -- the command is `compare`, and ended so
  pub compare_ends : (ask : Option Command) (source sink : Move) (end : Result ℕ Failure) → is_some (if_served is_compare ask) ≡ true → Ends A (if_served is_compare ask) source sink end → Ends B (if_served is_any ask) source sink end
  compare_ends None source sink end compares x = absurd (false≢true compares)
  compare_ends (Some (Plain command)) source sink end compares x = absurd (false≢true compares)
  compare_ends (Some (Live options)) source sink end compares x = absurd (false≢true compares)
  compare_ends (Some (Compare options)) source sink end compares x = ends_alike (Compare options) source sink end refl x

-- the command is `live`, and ended so
pub live_ends : (Told : ℕ → Type 0) (ask : Option Command) (source sink : Move) (end : Result ℕ Failure) → is_some (if_served is_live ask) ≡ true → Ends Told (if_served is_live ask) source sink end → Ends Told (if_served is_any ask) source sink end
live_ends Told None source sink end live x = absurd (false≢true live)
live_ends Told (Some (Plain command)) source sink end live x = absurd (false≢true live)
live_ends Told (Some (Live options)) source sink end live x = x
live_ends Told (Some (Compare options)) source sink end live x = absurd (false≢true live)

-- a run of the words' command, which left the sink's room as it was
pub runs : {Told : ℕ → Type 0} {words : Line} {source sink errs : Move} {room room2 : Option ℕ} {exit : ℕ} (serves : Command → Bool) → IsRun Told (asked serves words) source sink errs exit → room2 ≡ room → Runs serves Told words source sink errs room room2 exit
runs serves run room = record { run = run; status = run_means run; sink_room = room }
