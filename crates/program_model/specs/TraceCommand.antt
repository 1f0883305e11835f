-- Commands that read a trace: the answer to an input by the answer to the trace that it spells; and the options of the
-- commands that make a history of it.
use Rattle.std.specs.Prelude.{ℕ, List, [], ◌∷◌, map, slice_index_or, codes}
use Rattle.fq_model.specs.declared.config.Policy.TheVariants.{TwoDfq}
use Rattle.fq_model.specs.declared.config.Estimator.TheVariants.{Pessimistic}
use Rattle.program_model.specs.declared.command.HistoryPrint.{HistoryPrint}
use Rattle.program_model.specs.declared.command.HistoryPrint.TheVariants.{Journal, Report, Both, Summary}
use Rattle.program_model.specs.declared.trace.RunOptions.{RunOptions}
use Rattle.program_model.specs.Answer.{Answer, IsReadAnswer}
use Rattle.program_model.specs.CommandOptions.{value_at, listed_option, policies, estimators, workers_option, policy_option, estimate_option, initial_option, refresh_option, slot_option}
use Rattle.program_model.specs.FaultTexts.{trace_fault_text}
use Rattle.program_model.specs.Options.{OptionRow, Value}
use Rattle.program_model.specs.Trace.{Trace}
use Rattle.program_model.specs.TraceGrammar.{trace_of}

-- the possible outputs from a history, in the order of their words
abbrev pub history_prints : List HistoryPrint
history_prints = Journal ∷ Report ∷ Both ∷ Summary ∷ []

-- the word for each
abbrev pub history_print_word : HistoryPrint → List ℕ
history_print_word Journal = codes "journal"
history_print_word Report = codes "report"
history_print_word Both = codes "both"
history_print_word Summary = codes "summary"

-- the options for a run, for the slot of its report, and for the output
abbrev pub trace_options : List OptionRow
trace_options =
    workers_option ∷ policy_option ∷ estimate_option ∷ initial_option ∷ refresh_option ∷ slot_option
    ∷ listed_option (codes "--print") (map history_print_word history_prints) (codes "both")
    ∷ []

-- the options of a run, by the values of the command's options
abbrev pub run_options_of : List Value → RunOptions
run_options_of values = record {
  workers = value_at values 0;
  policy = slice_index_or policies (value_at values 1) TwoDfq;
  estimate = slice_index_or estimators (value_at values 2) Pessimistic;
  initial = value_at values 3;
  refresh = value_at values 4;
}

-- the output from a history, by the value of option k
abbrev pub history_print_at : List Value → ℕ → HistoryPrint
history_print_at values k = slice_index_or history_prints (value_at values k) Both

-- the answer to a trace; or, where the input is none, its first fault
abbrev pub IsTraceAnswer : (Trace → Answer → Type 0) → List ℕ → Answer → Type 0
IsTraceAnswer OfTrace input answer = IsReadAnswer trace_fault_text OfTrace (trace_of input) answer
