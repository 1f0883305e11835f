-- `gen`: generates a trace. It reads nothing.
use Rattle.std.specs.Prelude.{ℕ, ◌≡◌, false, List, [], ◌∷◌, map, slice_index_or, codes}
use Rattle.fq_model.specs.declared.config.Policy.TheVariants.{TwoDfq}
use Rattle.fq_model.specs.declared.config.Estimator.TheVariants.{Pessimistic}
use Rattle.fq_model.specs.declared.limits.TheConstants.{TEXT_TENANTS, MOST_ROWS}
use Rattle.program_model.specs.declared.command.Command.{Command}
use Rattle.program_model.specs.declared.command.Command.TheVariants.{Plain}
use Rattle.program_model.specs.declared.command.PlainCommand.TheVariants as commands
use Rattle.program_model.specs.declared.command.GenPrint.{GenPrint}
use Rattle.program_model.specs.declared.command.GenPrint.TheVariants as gen
use Rattle.program_model.specs.declared.command.HistoryPrint.TheVariants as history
use Rattle.program_model.specs.declared.trace.RunOptions.{RunOptions}
use Rattle.program_model.specs.Answer.{Answer, Text}
use Rattle.program_model.specs.CommandOptions.{value_at, listed_option, required_option}
use Rattle.program_model.specs.Generator.{generated_trace}
use Rattle.program_model.specs.Options.{OptionRow, Value, CommandRow}
use Rattle.program_model.specs.RunCommand.{IsSimulatedAnswer}
use Rattle.program_model.specs.Trace.{Trace}
use Rattle.program_model.specs.TraceText.{trace_text}

-- the possible outputs, in the order of their words
abbrev pub gen_prints : List GenPrint
gen_prints = gen.Trace ∷ gen.Summary ∷ []

-- the word for each
abbrev pub gen_print_word : GenPrint → List ℕ
gen_print_word gen.Trace = codes "trace"
gen_print_word gen.Summary = codes "summary"

-- the options for the seed, the numbers of tenants and requests, and the output
abbrev pub gen_options : List OptionRow
gen_options =
    required_option (codes "--seed") 0 18446744073709551615
    ∷ required_option (codes "--tenants") 1 TEXT_TENANTS
    ∷ required_option (codes "--requests") 0 MOST_ROWS
    ∷ listed_option (codes "--print") (map gen_print_word gen_prints) (codes "trace")
    ∷ []

abbrev pub gen_of_values : List Value → Command
gen_of_values values =
    Plain (commands.Gen (value_at values 0) (value_at values 1) (value_at values 2)
    (slice_index_or gen_prints (value_at values 3) gen.Trace))

abbrev pub gen_row : CommandRow Command
gen_row = record {
  word = codes "gen";
  options = gen_options;
  means = gen_of_values;
  reads_input = false;
}

-- the options of a run where none are given
abbrev pub default_run_options : RunOptions
default_run_options = record { workers = 4; policy = TwoDfq; estimate = Pessimistic; initial = 1000; refresh = 10000 }

-- the generated trace, or the summary of its simulated history under the default options, by the automatic slot
abbrev pub IsGeneratedAnswer : GenPrint → Trace → Answer → Type 0
IsGeneratedAnswer gen.Trace T answer = answer ≡ Text 0 (trace_text T)
IsGeneratedAnswer gen.Summary T answer = IsSimulatedAnswer default_run_options 0 history.Summary T answer

abbrev pub IsGenAnswer : (seed tenants requests : ℕ) → GenPrint → Answer → Type 0
IsGenAnswer seed tenants requests print answer = IsGeneratedAnswer print (generated_trace seed tenants requests) answer
