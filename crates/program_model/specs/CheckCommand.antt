-- `check`: judges a journal, and explains a choice in one that is legal.
use Rattle.std.specs.Prelude.{ℕ, ◌≡◌, true, List, [], ◌∷◌, ◌++◌, Option, Some, None, codes}
use Rattle.program_model.specs.declared.command.Command.{Command}
use Rattle.program_model.specs.declared.command.Command.TheVariants.{Plain}
use Rattle.program_model.specs.declared.command.PlainCommand.TheVariants as commands
use Rattle.program_model.specs.declared.explained.Explained.{Explained}
use Rattle.program_model.specs.declared.verdict.Verdict.{Verdict}
use Rattle.program_model.specs.declared.verdict.Verdict.TheVariants.{Legal, Bad}
use Rattle.program_model.specs.Answer.{Answer, Text, IsReadAnswer}
use Rattle.program_model.specs.CommandOptions.{given_at, number_given}
use Rattle.program_model.specs.Document.{config_of}
use Rattle.program_model.specs.Explanations.{Explains}
use Rattle.program_model.specs.FaultTexts.{journal_fault_text}
use Rattle.program_model.specs.Journal.{Journal, journal_of}
use Rattle.program_model.specs.Options.{Within, Nothing, OptionRow, Value, CommandRow}
use Rattle.program_model.specs.Verdicts.{IsVerdict}
use Rattle.program_model.specs.VerdictTexts.{verdict_text, explanation_text}

-- the request of which it is asked why it was chosen, if any
abbrev pub explain_option : OptionRow
explain_option = record { name = codes "--explain"; values = Within 0 4294967295; absent = Nothing }

abbrev pub check_options : List OptionRow
check_options = explain_option ∷ []

abbrev pub check_of_values : List Value → Command
check_of_values values = Plain (commands.Check (number_given (given_at values 0)))

abbrev pub check_row : CommandRow Command
check_row = record {
  word = codes "check";
  options = check_options;
  means = check_of_values;
  reads_input = true;
}

-- the status of a verdict
abbrev pub verdict_status : Verdict → ℕ
verdict_status Legal = 0
verdict_status (Bad place reply wanted) = 8

-- the request that is explained, if one is asked about: none in a journal that isn't legal
abbrev pub request_explained : Verdict → Option ℕ → Option ℕ
request_explained Legal asked = asked
request_explained (Bad place reply wanted) asked = None

-- the text explains this request of a journal
pub record IsExplanation (journal : Journal) (request : ℕ) (text : List ℕ) : Type 0 where
  pub explained : Option Explained
  pub explains : Explains (config_of journal) journal.body request explained
  pub text_is : text ≡ explanation_text journal.tenants request explained

-- it explains the request, if there is one, or is empty
abbrev pub IsExplanationIfAny : Journal → Option ℕ → List ℕ → Type 0
IsExplanationIfAny journal None text = text ≡ []
IsExplanationIfAny journal (Some request) text = IsExplanation journal request text

-- the answer from a journal: the verdict, with its status, and the explanation of the request
pub record IsJudged (asked : Option ℕ) (journal : Journal) (answer : Answer) : Type 0 where
  pub verdict : Verdict
  pub is_verdict : IsVerdict (config_of journal) journal.body verdict
  pub explanation : List ℕ
  pub explains : IsExplanationIfAny journal (request_explained verdict asked) explanation
  pub answer_is : answer ≡ Text (verdict_status verdict) (verdict_text journal.body verdict ++ explanation)

-- the answer to a journal; or, where the input is none, its first fault
abbrev pub IsCheckAnswer : Option ℕ → List ℕ → Answer → Type 0
IsCheckAnswer asked input answer = IsReadAnswer journal_fault_text (IsJudged asked) (journal_of input) answer
