-- `lead`: tells how far one tenant of a journal got ahead of another while both waited, and the bound of that.
use Rattle.std.specs.Prelude.{ℕ, ℤ, ◌≡◌, ◌==◌, true, if◌then◌else◌, List, [], ◌∷◌, ◌++◌, Option, Some, None, codes}
use Rattle.std.specs.Fmt.{signed_decimal}
use Rattle.fq_model.specs.declared.config.Config.{Config}
use Rattle.fq_model.specs.Ever.{measured_ever_bound}
use Rattle.fq_model.specs.Gap.{TagGap}
use Rattle.fq_model.specs.History.{History, history_of}
use Rattle.fq_model.specs.Lead.{measured_gap}
use Rattle.fq_model.specs.Names.{number_among}
use Rattle.program_model.specs.declared.command.Command.{Command}
use Rattle.program_model.specs.declared.command.Command.TheVariants.{Plain}
use Rattle.program_model.specs.declared.command.PlainCommand.TheVariants as commands
use Rattle.program_model.specs.declared.verdict.Verdict.{Verdict}
use Rattle.program_model.specs.declared.verdict.Verdict.TheVariants.{Legal, Bad}
use Rattle.program_model.specs.Answer.{Answer, Text, Message, message_line, IsReadAnswer}
use Rattle.program_model.specs.CheckCommand.{verdict_status}
use Rattle.program_model.specs.CommandOptions.{given_at, name_given, name_option}
use Rattle.program_model.specs.Document.{config_of}
use Rattle.program_model.specs.FaultTexts.{journal_fault_text}
use Rattle.program_model.specs.Journal.{Journal, journal_of}
use Rattle.program_model.specs.Options.{OptionRow, Value, CommandRow}
use Rattle.program_model.specs.Verdicts.{IsVerdict}
use Rattle.program_model.specs.VerdictTexts.{verdict_text}

-- whose lead it is, and over whom
abbrev pub lead_options : List OptionRow
lead_options = name_option (codes "--of") ∷ name_option (codes "--over") ∷ []

abbrev pub lead_of_values : List Value → Command
lead_of_values values = Plain (commands.Lead (name_given (given_at values 0)) (name_given (given_at values 1)))

abbrev pub lead_row : CommandRow Command
lead_row = record {
  word = codes "lead";
  options = lead_options;
  means = lead_of_values;
  reads_input = true;
}

-- the words of the bound that holds whatever came before, in steps, where there is one
abbrev pub ever_text : Option ℤ → List ℕ
ever_text None = []
ever_text (Some bound) = codes " ever " ++ signed_decimal bound

-- the line of the measured gap: the largest difference of their starts and its bound, in steps, and the bound that
-- holds whatever came before; or that the two never waited together
abbrev pub lead_text : (of over : List ℕ) → Option ℤ → Option TagGap → List ℕ
lead_text of over ever None = of ++ codes " and " ++ over ++ codes " never waited together\n"
lead_text of over ever (Some gap) =
    codes "lead of " ++ of ++ codes " over " ++ over ++ codes " largest " ++ signed_decimal gap.largest
    ++ codes " bound " ++ signed_decimal gap.bound ++ ever_text ever ++ codes "\n"

-- the line of tenants f and g of a legal journal
abbrev pub measured_text : (of over : List ℕ) → Config → History → (f g : ℕ) → List ℕ
measured_text of over C H f g = lead_text of over (measured_ever_bound C H) (measured_gap C H f g)

-- the message for a name that no tenant of the journal has
abbrev pub unknown_answer : List ℕ → Answer
unknown_answer name = Message 7 (message_line (codes "the journal has no tenant " ++ name))

-- the message for one name given for both
abbrev pub same_answer : List ℕ → Answer
same_answer name = Message 7 (message_line (codes "--of and --over are both " ++ name))

-- the answer about two tenants of a legal journal, with these names and, where they are tenants of it, these
-- numbers: an unknown name comes before one name given for both, and that of `--of` before that of `--over`
abbrev pub pair_answer : Journal → (of over : List ℕ) → (f g : Option ℕ) → Answer
pair_answer journal of over None g = unknown_answer of
pair_answer journal of over (Some f) None = unknown_answer over
pair_answer journal of over (Some f) (Some g) =
    if f == g then same_answer of
    else Text 0 (measured_text of over (config_of journal) (history_of journal.body) f g)

-- the answer from a journal with this verdict: where it isn't legal, that of `check`
abbrev pub lead_answer : (of over : List ℕ) → Journal → Verdict → Answer
lead_answer of over journal Legal =
    pair_answer journal of over (number_among journal.tenants of) (number_among journal.tenants over)
lead_answer of over journal (Bad place reply wanted) =
    Text (verdict_status (Bad place reply wanted)) (verdict_text journal.body (Bad place reply wanted))

-- the answer from a journal
pub record IsLeadTold (of over : List ℕ) (journal : Journal) (answer : Answer) : Type 0 where
  pub verdict : Verdict
  pub is_verdict : IsVerdict (config_of journal) journal.body verdict
  pub answer_is : answer ≡ lead_answer of over journal verdict

-- the answer to a journal; or, where the input is none, its first fault
abbrev pub IsLeadAnswer : (of over : List ℕ) → List ℕ → Answer → Type 0
IsLeadAnswer of over input answer =
    IsReadAnswer journal_fault_text (IsLeadTold of over) (journal_of input) answer
