-- `live`: serves a trace by a pool of threads, at moments that a clock tells.
use Rattle.std.specs.Prelude.{ℕ, ◌≡◌, true, List, [], ◌∷◌, ◌++◌, length, codes}
use Rattle.fq_model.specs.declared.event.Entry.{Entry}
use Rattle.fq_model.specs.declared.limits.TheConstants.{MOST_STATUSES}
use Rattle.fq_model.specs.declared.parts.Status.{Status}
use Rattle.fq_model.specs.History.{History, history_of}
use Rattle.program_model.specs.declared.command.Command.{Command}
use Rattle.program_model.specs.declared.command.Command.TheVariants.{Live}
use Rattle.program_model.specs.declared.command.LiveOptions.{LiveOptions}
use Rattle.program_model.specs.declared.trace.RunOptions.{RunOptions}
use Rattle.program_model.specs.Answer.{Answer, Text, Message, IsAnswerUnless}
use Rattle.program_model.specs.CommandOptions.{value_at, number_option}
use Rattle.program_model.specs.HistoryAnswer.{history_answer, has_many_entries, entries_answer}
use Rattle.program_model.specs.Options.{OptionRow, Value, CommandRow}
use Rattle.program_model.specs.PoolHistory.{needed_pool_entries, pool_config, IsPoolHistory, HasToldMoments}
use Rattle.program_model.specs.Readings.{AreReadings, status_lines}
use Rattle.program_model.specs.Trace.{Trace}
use Rattle.program_model.specs.TraceCommand.{trace_options, run_options_of, history_print_at, IsTraceAnswer}

-- the options of `run`, and how many times the status is read
abbrev pub live_options : List OptionRow
live_options = trace_options ++ number_option (codes "--watch") 0 MOST_STATUSES (codes "0") ∷ []

abbrev pub live_options_of : List Value → LiveOptions
live_options_of values = record {
  run = run_options_of values;
  slot = value_at values 5;
  print = history_print_at values 6;
  watch = value_at values 7;
}

abbrev pub live_of_values : List Value → Command
live_of_values values = Live (live_options_of values)

abbrev pub live_row : CommandRow Command
live_row = record {
  word = codes "live";
  options = live_options;
  means = live_of_values;
  reads_input = true;
}

-- a history of a pool that serves the trace under these options, at moments that its clock tells
pub record PoolMakes (Told : ℕ → Type 0) (T : Trace) (options : RunOptions) (H : History) : Type 0 where
  pub history : IsPoolHistory T options H
  pub moments : HasToldMoments Told H

-- the answer, with these lines before it where it is a text
abbrev pub after_lines : List ℕ → Answer → Answer
after_lines lines (Text status bytes) = Text status (lines ++ bytes)
after_lines lines (Message status bytes) = Message status bytes

-- the answer is that of one such history, its entries in order of time, after a line for each time that the status was
-- read while it grew
pub record IsWatchedAnswer (Told : ℕ → Type 0) (options : LiveOptions) (T : Trace) (answer : Answer) : Type 0 where
  pub past : List Entry
  pub makes : PoolMakes Told T options.run (history_of past)
  pub statuses : List Status
  pub count : length statuses ≡ options.watch
  pub readings : AreReadings (pool_config T options.run) past 0 statuses
  pub answer_is :
      answer
      ≡ after_lines (status_lines statuses)
      (history_answer options.print options.slot (pool_config T options.run) T.tenants T.kinds past)

-- the answer from such a history, or that it would have too many entries
abbrev pub IsPoolAnswer : (ℕ → Type 0) → LiveOptions → Trace → Answer → Type 0
IsPoolAnswer Told options T answer =
    IsAnswerUnless (has_many_entries (needed_pool_entries T.rows options.run.refresh))
    (entries_answer (needed_pool_entries T.rows options.run.refresh))
    (IsWatchedAnswer Told options T) answer

-- the answer to a trace; or, where the input is none, its first fault. (A trace may have several histories, so several
-- answers.)
abbrev pub IsLiveAnswer : (ℕ → Type 0) → LiveOptions → List ℕ → Answer → Type 0
IsLiveAnswer Told options input answer = IsTraceAnswer (IsPoolAnswer Told options) input answer
