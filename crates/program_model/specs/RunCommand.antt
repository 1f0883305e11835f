-- `run`: simulates a trace.
use Rattle.std.specs.Prelude.{ℕ, true, List, codes}
use Rattle.program_model.specs.declared.command.Command.{Command}
use Rattle.program_model.specs.declared.command.Command.TheVariants.{Plain}
use Rattle.program_model.specs.declared.command.PlainCommand.TheVariants as commands
use Rattle.program_model.specs.declared.command.HistoryPrint.{HistoryPrint}
use Rattle.program_model.specs.declared.trace.RunOptions.{RunOptions}
use Rattle.program_model.specs.Answer.{Answer, IsAnswerUnless}
use Rattle.program_model.specs.CommandOptions.{value_at}
use Rattle.program_model.specs.HistoryAnswer.{IsHistoryAnswer, has_many_entries, entries_answer}
use Rattle.program_model.specs.Options.{Value, CommandRow}
use Rattle.program_model.specs.Simulated.{needed_entries, run_config, IsSimulated}
use Rattle.program_model.specs.Trace.{Trace}
use Rattle.program_model.specs.TraceCommand.{trace_options, run_options_of, history_print_at, IsTraceAnswer}

abbrev pub run_of_values : List Value → Command
run_of_values values = Plain (commands.Run (run_options_of values) (value_at values 5) (history_print_at values 6))

abbrev pub run_row : CommandRow Command
run_row = record {
  word = codes "run";
  options = trace_options;
  means = run_of_values;
  reads_input = true;
}

-- the answer from the simulated history of a trace
abbrev pub IsSimulatedAnswer : RunOptions → ℕ → HistoryPrint → Trace → Answer → Type 0
IsSimulatedAnswer options slot print T answer =
    IsHistoryAnswer (IsSimulated T options) print slot (run_config T options) T.tenants T.kinds answer

-- the answer from this history, or that it would have too many entries
abbrev pub IsSimulationAnswer : RunOptions → ℕ → HistoryPrint → Trace → Answer → Type 0
IsSimulationAnswer options slot print T answer =
    IsAnswerUnless (has_many_entries (needed_entries T.rows options.refresh))
    (entries_answer (needed_entries T.rows options.refresh))
    (IsSimulatedAnswer options slot print T) answer

-- the answer to a trace by its simulation; or, where the input is none, its first fault
abbrev pub IsRunAnswer : RunOptions → ℕ → HistoryPrint → List ℕ → Answer → Type 0
IsRunAnswer options slot print input answer = IsTraceAnswer (IsSimulationAnswer options slot print) input answer
