-- `script`: makes the calls of a script on a scheduler that was just opened.
use Rattle.std.specs.Prelude.{ℕ, ◌≡◌, true, List, [], ◌∷◌, ◌++◌, map, slice_index_or, codes}
use Rattle.fq_model.specs.declared.event.Entry.{Entry}
use Rattle.fq_model.specs.declared.event.Reply.{Reply}
use Rattle.fq_model.specs.History.{history_of}
use Rattle.fq_model.specs.Outcome.{Outcome}
use Rattle.program_model.specs.declared.command.Command.{Command}
use Rattle.program_model.specs.declared.command.Command.TheVariants.{Plain}
use Rattle.program_model.specs.declared.command.PlainCommand.TheVariants as commands
use Rattle.program_model.specs.declared.command.ScriptPrint.{ScriptPrint}
use Rattle.program_model.specs.declared.command.ScriptPrint.TheVariants.{Replies, Journal, Both}
use Rattle.program_model.specs.Answer.{Answer, Text, IsReadAnswer}
use Rattle.program_model.specs.CommandOptions.{value_at, listed_option}
use Rattle.program_model.specs.Document.{config_of}
use Rattle.program_model.specs.FaultTexts.{script_fault_text}
use Rattle.program_model.specs.JournalText.{journal_text}
use Rattle.program_model.specs.Options.{OptionRow, Value, CommandRow}
use Rattle.program_model.specs.Script.{Script, script_of}
use Rattle.program_model.specs.Texts.{replies_text}

-- the possible outputs, in the order of their words
abbrev pub script_prints : List ScriptPrint
script_prints = Replies ∷ Journal ∷ Both ∷ []

-- the word for each
abbrev pub script_print_word : ScriptPrint → List ℕ
script_print_word Replies = codes "replies"
script_print_word Journal = codes "journal"
script_print_word Both = codes "both"

-- the option for the output
abbrev pub script_options : List OptionRow
script_options = listed_option (codes "--print") (map script_print_word script_prints) (codes "replies") ∷ []

abbrev pub script_of_values : List Value → Command
script_of_values values = Plain (commands.Script (slice_index_or script_prints (value_at values 0) Replies))

abbrev pub script_row : CommandRow Command
script_row = record {
  word = codes "script";
  options = script_options;
  means = script_of_values;
  reads_input = true;
}

-- the output, from the texts of the replies and of the journal
abbrev pub script_output_text : ScriptPrint → (replies journal : List ℕ) → List ℕ
script_output_text Replies replies journal = replies
script_output_text Journal replies journal = journal
script_output_text Both replies journal = replies ++ journal

-- The calls of the script, made in order on a scheduler that was just opened, are answered by the replies, and the
-- scheduler's entries are then these, in order of time. The text is the replies, the journal, or both.
pub record AreCallsMade (print : ScriptPrint) (script : Script) (answer : Answer) : Type 0 where
  pub replies : List Reply
  pub past : List Entry
  pub outcome : Outcome (config_of script) script.body replies (history_of past)
  pub answer_is : answer ≡ Text 0 (script_output_text print (replies_text replies)
      (journal_text (config_of script) script.tenants script.kinds past))

-- the answer to a script; or, where the input is none, its first fault
abbrev pub IsScriptAnswer : ScriptPrint → List ℕ → Answer → Type 0
IsScriptAnswer print input answer = IsReadAnswer script_fault_text (AreCallsMade print) (script_of input) answer
