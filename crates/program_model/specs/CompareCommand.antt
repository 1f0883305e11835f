-- `compare`: simulates a trace under the published policies and all estimators.
use Rattle.std.specs.Prelude.{ℕ, ◌≡◌, true, false, List, [], ◌∷◌, codes, take, slice_get, All, IsSomeAnd, ◌⊎◌}
use Rattle.fq_model.specs.declared.config.Policy.{Policy}
use Rattle.fq_model.specs.declared.config.Estimator.{Estimator}
use Rattle.fq_model.specs.History.{History}
use Rattle.fq_model.specs.Report.{cells_of}
use Rattle.program_model.specs.declared.command.Command.{Command}
use Rattle.program_model.specs.declared.command.Command.TheVariants as commands
use Rattle.program_model.specs.declared.compare.CompareOptions.{CompareOptions}
use Rattle.program_model.specs.declared.compare.CompareRow.{CompareRow}
use Rattle.program_model.specs.Answer.{Answer, Text, IsAnswerUnless}
use Rattle.program_model.specs.CommandOptions.{value_at, workers_option, initial_option, refresh_option, slot_option}
use Rattle.program_model.specs.Compare.{all_pairs, run_options, AreCompared}
use Rattle.program_model.specs.HistoryAnswer.{has_many_cells, cells_answer, has_many_entries, entries_answer}
use Rattle.program_model.specs.Options.{OptionRow, Value, CommandRow}
use Rattle.program_model.specs.ReportText.{compare_text}
use Rattle.program_model.specs.Simulated.{needed_entries, run_config, IsSimulated}
use Rattle.program_model.specs.Trace.{Trace}
use Rattle.program_model.specs.TraceCommand.{IsTraceAnswer}

-- the options for the runs under each pair, and for the slot of their reports
abbrev pub compare_options : List OptionRow
compare_options = workers_option ∷ initial_option ∷ refresh_option ∷ slot_option ∷ []

abbrev pub compare_options_of : List Value → CompareOptions
compare_options_of values = record {
  workers = value_at values 0;
  initial = value_at values 1;
  refresh = value_at values 2;
  slot = value_at values 3;
}

abbrev pub compare_of_values : List Value → Command
compare_of_values values = commands.Compare (compare_options_of values)

abbrev pub compare_row : CommandRow Command
compare_row = record {
  word = codes "compare";
  options = compare_options;
  means = compare_of_values;
  reads_input = true;
}

-- the report of the trace's history under the pair has no more cells than it may
pub record IsShort (T : Trace) (o : CompareOptions) (pair : Policy × Estimator) : Type 0 where
  pub history : History
  pub simulated : IsSimulated T (run_options o pair) history
  pub few : has_many_cells o.slot (run_config T (run_options o pair)) history ≡ false

-- that report would have this number of cells, and may not
pub record IsLong (T : Trace) (o : CompareOptions) (cells : ℕ) (pair : Policy × Estimator) : Type 0 where
  pub history : History
  pub simulated : IsSimulated T (run_options o pair) history
  pub many : has_many_cells o.slot (run_config T (run_options o pair)) history ≡ true
  pub cells_are : cells ≡ cells_of (run_config T (run_options o pair)) history o.slot

-- the first of all pairs whose report would have too many cells is this, counted from 0, and it would have this number
pub record IsFirstLong (T : Trace) (o : CompareOptions) (row cells : ℕ) : Type 0 where
  pub earlier : All (IsShort T o) (take row all_pairs)
  pub long : IsSomeAnd (slice_get all_pairs row) (IsLong T o cells)

-- no report has more cells than it may, and these are the rows of all pairs
pub record AreAllRows (T : Trace) (o : CompareOptions) (rows : List CompareRow) : Type 0 where
  pub short : All (IsShort T o) all_pairs
  pub compared : AreCompared T o rows

-- the answer is the text of these rows
pub record IsRowsAnswer (T : Trace) (o : CompareOptions) (answer : Answer) : Type 0 where
  pub rows : List CompareRow
  pub are_all : AreAllRows T o rows
  pub answer_is : answer ≡ Text 0 (compare_text rows)

-- it tells how many cells the first report would have that has too many
pub record IsLongAnswer (T : Trace) (o : CompareOptions) (answer : Answer) : Type 0 where
  pub row : ℕ
  pub cells : ℕ
  pub first : IsFirstLong T o row cells
  pub answer_is : answer ≡ cells_answer cells

-- the answer to a trace: one of these, or that its histories, which are of one length, would have too many entries
abbrev pub IsComparisonAnswer : CompareOptions → Trace → Answer → Type 0
IsComparisonAnswer o T answer =
    IsAnswerUnless (has_many_entries (needed_entries T.rows o.refresh))
    (entries_answer (needed_entries T.rows o.refresh))
    (λ a. IsRowsAnswer T o a ⊎ IsLongAnswer T o a) answer

-- the answer to a trace; or, where the input is none, its first fault
abbrev pub IsCompareAnswer : CompareOptions → List ℕ → Answer → Type 0
IsCompareAnswer o input answer = IsTraceAnswer (IsComparisonAnswer o) input answer
