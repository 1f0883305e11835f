-- `shape`: delays the requests of a trace as a bucket of tokens for each tenant would, and no more than that.
use Rattle.std.specs.Prelude.{ℕ, ◌≡◌, true, List, [], ◌∷◌, ◌++◌, slice_get, Option, Some, None, codes}
use Rattle.std.specs.Fmt.{decimal}
use Rattle.fq_model.specs.declared.limits.TheConstants.{GREATEST_RATE, GREATEST_BURST}
use Rattle.program_model.specs.declared.command.Command.{Command}
use Rattle.program_model.specs.declared.command.Command.TheVariants.{Plain}
use Rattle.program_model.specs.declared.command.PlainCommand.TheVariants as commands
use Rattle.program_model.specs.declared.trace.TraceRow.{TraceRow}
use Rattle.program_model.specs.Answer.{Answer, Text, Message, message_line}
use Rattle.program_model.specs.CommandOptions.{value_at, required_option}
use Rattle.program_model.specs.Conforms.{IsLeastConforming, too_big, too_late}
use Rattle.program_model.specs.Options.{OptionRow, Value, CommandRow}
use Rattle.program_model.specs.Shaped.{at_moments}
use Rattle.program_model.specs.Trace.{Trace}
use Rattle.program_model.specs.TraceCommand.{IsTraceAnswer}
use Rattle.program_model.specs.TraceText.{trace_text}

-- how many tokens a tenant gains in 1000 microseconds for each unit of its weight, and how many a bucket holds
abbrev pub shape_options : List OptionRow
shape_options =
    required_option (codes "--rate") 1 GREATEST_RATE
    ∷ required_option (codes "--burst") 1 GREATEST_BURST
    ∷ []

abbrev pub shape_of_values : List Value → Command
shape_of_values values = Plain (commands.Shape (value_at values 0) (value_at values 1))

abbrev pub shape_row : CommandRow Command
shape_row = record {
  word = codes "shape";
  options = shape_options;
  means = shape_of_values;
  reads_input = true;
}

-- the message for request r, which declares more than a bucket holds
abbrev pub big_text : (r declared burst : ℕ) → List ℕ
big_text r declared burst =
    codes "request " ++ decimal r ++ codes " has size " ++ decimal declared ++ codes ", more than the burst "
    ++ decimal burst

-- the message for request r, whose least moment is too late for a trace
abbrev pub late_text : ℕ → List ℕ
late_text r = codes "request " ++ decimal r ++ codes " would come after 100000000000000"

-- the answer says that row r declares more than a bucket holds
pub record IsBigAnswer (T : Trace) (burst r : ℕ) (answer : Answer) : Type 0 where
  pub row : TraceRow
  pub row_is : slice_get T.rows r ≡ Some row
  pub answer_is : answer ≡ Message 7 (message_line (big_text r row.declared burst))

-- the answer from the least moments, by the first row for which they are too late, if there is one: the trace at
-- these moments, or that this row would come too late
abbrev pub moments_answer : Trace → List ℕ → Option ℕ → Answer
moments_answer T moments None = Text 0 (trace_text (at_moments T moments))
moments_answer T moments (Some r) = Message 7 (message_line (late_text r))

-- the answer is that of the least moments that conform
pub record IsMomentsAnswer (rate burst : ℕ) (T : Trace) (answer : Answer) : Type 0 where
  pub moments : List ℕ
  pub least : IsLeastConforming T rate burst moments
  pub answer_is : answer ≡ moments_answer T moments (too_late moments)

-- the answer to a trace, by the first row that declares more than a bucket holds, if there is one
abbrev pub IsSizedAnswer : (rate burst : ℕ) → Trace → Option ℕ → Answer → Type 0
IsSizedAnswer rate burst T None answer = IsMomentsAnswer rate burst T answer
IsSizedAnswer rate burst T (Some r) answer = IsBigAnswer T burst r answer

abbrev pub IsShapedAnswer : (rate burst : ℕ) → Trace → Answer → Type 0
IsShapedAnswer rate burst T answer = IsSizedAnswer rate burst T (too_big T burst) answer

-- the answer to a trace; or, where the input is none, its first fault
abbrev pub IsShapeAnswer : (rate burst : ℕ) → List ℕ → Answer → Type 0
IsShapeAnswer rate burst input answer = IsTraceAnswer (IsShapedAnswer rate burst) input answer
