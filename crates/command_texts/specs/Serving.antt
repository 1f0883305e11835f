-- The answer to a script whose calls are made as they are read.
use Rattle.std.specs.Prelude.{ℕ, ◌≡◌, Bool, true, false, if◌then◌else◌, codes, List, [], ◌++◌, Result, Ok, Err}
use Rattle.program_model.specs.declared.command.ScriptPrint.{ScriptPrint}
use Rattle.program_model.specs.declared.command.ScriptPrint.TheVariants.{Replies, Journal}
use Rattle.fq_model.specs.declared.config.Config.{Config}
use Rattle.fq_model.specs.declared.event.Call.{Call}
use Rattle.fq_model.specs.declared.event.Entry.{Entry}
use Rattle.fq_model.specs.declared.event.Reply.{Reply}
use Rattle.program_model.specs.declared.fault.ScriptKind.{ScriptKind}
use Rattle.program_model.specs.Document.{Document, document_of}
use Rattle.fq_model.specs.History.{history_of}
use Rattle.fq_model.specs.Outcome.{Outcome}
use Rattle.program_model.specs.Texts.{replies_text}
use Rattle.program_model.specs.JournalText.{journal_text}
use Rattle.journal_text.specs.Body.{Below, IsOpened}
use Rattle.program_model.specs.Answer.{Answer, Text, fault_answer}
use Rattle.program_model.specs.FaultTexts.{script_fault_text}

-- the calls of a body, or its first fault
abbrev pub Said : Type 0
Said = Result (List Call) (ℕ × ScriptKind)

-- whether replies are asked for, and whether the journal is
abbrev pub tells_replies : ScriptPrint → Bool
tells_replies Journal = false
tells_replies _ = true

abbrev pub tells_journal : ScriptPrint → Bool
tells_journal Replies = false
tells_journal _ = true

-- the input is a script with this head, and with this body left to be read
abbrev pub OpensAs : List ℕ → Document Call → Below → Type 0
OpensAs input head body = IsOpened (λ reader. document_of (codes "script") reader input) head body

-- the kept text of replies: a line for each, if they are asked for
abbrev pub told_text : Bool → List Reply → List ℕ
told_text tells replies = if tells then replies_text replies else []

-- The calls were made in order on a scheduler that was just opened. This text is kept of the replies, and these are
-- the scheduler's entries, in order of time.
pub record AreServed (C : Config) (tells : Bool) (calls : List Call) (text : List ℕ) (past : List Entry) : Type 0 where
  pub replies : List Reply
  pub outcome : Outcome C calls replies (history_of past)
  pub told : text ≡ told_text tells replies

-- the answer has the output that is asked for of calls that were answered so, with these tenants and kinds
pub record IsCallsAnswer
    (what : ScriptPrint) (C : Config) (tenants kinds : List (List ℕ)) (calls : List Call) (answer : Answer)
    : Type 0 where
  pub told : List ℕ
  pub past : List Entry
  pub answered : AreServed C (tells_replies what) calls told past
  pub answer_is : answer ≡ Text 0 (told ++ (if tells_journal what then journal_text C tenants kinds past else []))

-- the body of a script is calls that were answered so
pub record IsBodyAnswered (C : Config) (said : Said) (tells : Bool) (text : List ℕ) (past : List Entry) : Type 0 where
  pub calls : List Call
  pub read : said ≡ Ok calls
  pub answered : AreServed C tells calls text past

-- the answer to a script with this configuration and with these tenants and kinds, by the contents of its body
abbrev pub IsBodyAnswer : ScriptPrint → Config → (tenants kinds : List (List ℕ)) → Said → Answer → Type 0
IsBodyAnswer what C tenants kinds (Ok calls) answer = IsCallsAnswer what C tenants kinds calls answer
IsBodyAnswer what C tenants kinds (Err (line, fault)) answer = answer ≡ fault_answer line (script_fault_text fault)
