-- The end of a command, by its input and its output.
use Rattle.std.proofs.Common.{ℕ, sym, subst, List, Result, Ok, Err}
use Rattle.std.specs.String.{string_bytes}
use Rattle.command_texts.specs.Making.{IsStop, Makes}
use Rattle.program_model.specs.declared.command.Command.{Command}
use Rattle.program_model.specs.declared.ending.Failure.{Failure}
use Rattle.program_model.specs.declared.ending.Failure.TheVariants.{Words, TooLong, Reading, Writing, Stopped}
use Rattle.program_model.specs.declared.ending.Output.{Output}
use Rattle.program_model.specs.declared.ending.Stop.{Stop}
use Rattle.program_model.specs.declared.ending.Stop.TheVariants as stops
use Rattle.program_model.specs.Answer.{Answer, Text, Message}
use Rattle.program_model.specs.Commands.{reads_input, IsAnswer}
use Rattle.program_model.specs.Program.{Move, Stays, EndsCommand, IsAnswered}
use Rattle.twodfq_main.specs.Ends.{EndsWith}
use Rattle.twodfq_main.specs.Inputs.{IsInput, IsNoInput}

module _ (Told : ℕ → Type 0) (command : Command) (source sink : Move) where
  -- the input was not read
  pub no_input_ends : (failure : Failure) → IsNoInput (reads_input command) source failure → Stays sink → EndsCommand Told command source sink (Err failure)
  no_input_ends Words none stays = none
  no_input_ends TooLong none stays = (none, stays)
  no_input_ends Reading none stays = (none, stays)
  no_input_ends Writing none stays = absurd none
  no_input_ends (Stopped (stops.Message status message)) none stays = absurd none
  no_input_ends (Stopped stops.NoMemory) none stays = (none, stays)

  module _ (input : List ℕ) (is : IsInput (reads_input command) source input) where
    answered : (answer : Answer) → IsAnswer Told command input answer → IsAnswered Told command source answer
    answered answer x = record { input = input; read = is.read; within = is.within; is_answer = x }

    stopped : (stop : Stop) → IsStop (IsAnswer Told command input) stop → Stays sink → EndsCommand Told command source sink (Err (Stopped stop))
    stopped (stops.Message status message) x stays = (answered (Message status (string_bytes message)) x, stays)
    stopped stops.NoMemory x stays = (is.taken, stays)

    -- the input was read, and its output was made and written
    pub output_ends : (made : Result Output Stop) (end : Result ℕ Failure) → Makes (IsAnswer Told command input) made → EndsWith made sink end → EndsCommand Told command source sink end
    output_ends (Ok output) (Ok status) x wrote = record {
      text = output.text.items;
      answered = subst (λ s. IsAnswered Told command source (Text s output.text.items)) (sym wrote.0) (answered (Text output.status output.text.items) x);
      wrote = wrote.1;
    }
    output_ends (Ok output) (Err failure) x wrote = subst (λ f. EndsCommand Told command source sink (Err f)) (sym wrote.0) (record {
      status = output.status;
      text = output.text.items;
      answered = answered (Text output.status output.text.items) x;
      wrote = wrote.1;
    })
    output_ends (Err stop) end x wrote = subst (EndsCommand Told command source sink) (sym wrote.0) (stopped stop x wrote.1)
