-- The calls of a body, answered one by one.
use Rattle.std.proofs.Common.{ℕ, ◌≡◌, ◌∙◌, refl, sym, ap, subst, Bool, true, false, if◌then◌else◌, List, [], ◌∷◌, ◌++◌, Result, Ok, Err}
use Rattle.std.specs.Prelude.{is_err, codes, OnOk}
use Rattle.std.proofs.lemmas.Bool.{false≢true}
use Rattle.std.proofs.lemmas.List.{append_assoc, append-nil}
use Rattle.program_model.specs.declared.command.ScriptPrint.{ScriptPrint}
use Rattle.program_model.specs.declared.command.ScriptPrint.TheVariants.{Replies, Journal, Both}
use Rattle.fq_model.specs.declared.config.Config.{Config}
use Rattle.fq_model.specs.declared.event.Call.{Call}
use Rattle.fq_model.specs.declared.event.Entry.{Entry}
use Rattle.fq_model.specs.declared.event.Reply.{Reply}
use Rattle.program_model.specs.Document.{config_of, document_of}
use Rattle.fq_model.specs.History.{history_of}
use Rattle.program_model.specs.JournalText.{journal_text}
use Rattle.fq_model.specs.Rules.{Answers}
use Rattle.program_model.specs.Script.{Script, script_of, call_of_words}
use Rattle.program_model.specs.Texts.{reply_line, replies_text}
use Rattle.fq_laws.proofs.Outcome.{outcome_snoc}
use Rattle.journal_text.proofs.Bodies.{with_more}
use Rattle.journal_text.specs.Body.{Below, with_first, said_below, with_body_lines, IsHeadFault}
use Rattle.journal_text.specs.Reading.{IsFirstFault}
use Rattle.journal_text.specs.declared.fault.ScriptFault.{ScriptFault}
use Rattle.journal_text.specs.declared.fault.ScriptFault.TheVariants as faults
use Rattle.program_model.specs.declared.ending.Output.{Output}
use Rattle.program_model.specs.declared.ending.Stop.{Stop}
use Rattle.program_model.specs.Answer.{Answer, Text, IsReadAnswer}
use Rattle.program_model.specs.FaultTexts.{script_fault_text}
use Rattle.program_model.specs.ScriptCommand.{script_output_text, AreCallsMade, IsScriptAnswer}
use Rattle.command_texts.specs.Making.{Makes, IsStop, TellsDocumentFault}
use Rattle.command_texts.specs.Serving.{Said, tells_replies, tells_journal, told_text, AreServed, IsBodyAnswered, OpensAs, IsCallsAnswer, IsBodyAnswer}
use Rattle.command_texts.proofs.Making.{stop_as, makes_as, document_stop}

-- the first calls of a body were answered, and the rest is left
pub record IsPartAnswered (C : Config) (tells : Bool) (said left : Said) (text : List ℕ) (past : List Entry) : Type 0 where
  pub calls : List Call
  pub means : said ≡ with_more calls left
  pub answered : AreServed C tells calls text past

with_none : (later : Said) → with_more [] later ≡ later
with_none (Ok more) = refl
with_none (Err fault) = refl

with_one_more : (calls : List Call) (call : Call) (later : Said) → with_more calls (with_first call later) ≡ with_more (calls ++ call ∷ []) later
with_one_more calls call (Ok more) = ap Ok (sym (append_assoc calls (call ∷ []) more))
with_one_more calls call (Err fault) = refl

replies_snoc : (replies : List Reply) (reply : Reply) → replies_text (replies ++ reply ∷ []) ≡ replies_text replies ++ reply_line reply
replies_snoc [] reply = append-nil (reply_line reply)
replies_snoc (first ∷ rest) reply = ap (λ text. reply_line first ++ text) (replies_snoc rest reply) ∙ sym (append_assoc (reply_line first) (replies_text rest) (reply_line reply))

told_snoc : (tells : Bool) (replies : List Reply) (reply : Reply) → told_text tells (replies ++ reply ∷ []) ≡ told_text tells replies ++ (if tells then reply_line reply else [])
told_snoc true replies reply = replies_snoc replies reply
told_snoc false replies reply = refl

nothing_told : (tells : Bool) → [] ≡ told_text tells []
nothing_told true = refl
nothing_told false = refl

-- no call was answered yet
pub nothing_answered : (C : Config) (tells : Bool) (said : Said) (text : List ℕ) (past : List Entry) → text ≡ [] → past ≡ [] → IsPartAnswered C tells said said text past
nothing_answered C tells said text past t p = record {
  calls = [];
  means = sym (with_none said);
  answered = record { replies = []; outcome = ap history_of p; told = t ∙ nothing_told tells };
}

-- the line of a reply is added where replies are asked for
pub line_is_told : {F : Type 0} (tells : Bool) (added : Result (Unit {0}) F) (text text2 line : List ℕ) → tells ≡ true → is_err added ≡ false → OnOk added (text2 ≡ text ++ line) → text2 ≡ text ++ (if tells then line else [])
line_is_told tells (Ok done) text text2 line tell ok more = rw (tell) more
line_is_told tells (Err fault) text text2 line tell ok more = absurd (false≢true (sym ok))

pub no_line_is_told : (tells : Bool) (text text2 line : List ℕ) → tells ≡ false → text2 ≡ text → text2 ≡ text ++ (if tells then line else [])
no_line_is_told tells text text2 line none same = rw (none, append-nil text) same

-- one call more is answered
pub one_more_answered : (C D : Config) (tells : Bool) (said old new : Said) (call : Call) (reply : Reply) (text text2 : List ℕ) (past past2 : List Entry) → D ≡ C → IsPartAnswered C tells said old text past → old ≡ with_first call new → Answers D (history_of past) call reply (history_of past2) → text2 ≡ text ++ (if tells then reply_line reply else []) → IsPartAnswered C tells said new text2 past2
one_more_answered C D tells said old new call reply text text2 past past2 same p first answers more =
    let there : Answers C (history_of past) call reply (history_of past2) = subst (λ (x : Config). Answers x (history_of past) call reply (history_of past2)) same answers in
    record {
      calls = p.calls ++ call ∷ [];
      means = p.means ∙ (ap (with_more p.calls) first ∙ with_one_more p.calls call new);
      answered = record {
        replies = p.answered.replies ++ reply ∷ [];
        outcome = outcome_snoc C [] (history_of past) (history_of past2) p.calls p.answered.replies call reply p.answered.outcome there;
        told = more ∙ (ap (λ t. t ++ (if tells then reply_line reply else [])) p.answered.told ∙ sym (told_snoc tells p.answered.replies reply));
      };
    }

-- nothing is left
pub all_answered : (C : Config) (tells : Bool) (said left : Said) (text : List ℕ) (past : List Entry) → IsPartAnswered C tells said left text past → left ≡ Ok [] → IsBodyAnswered C said tells text past
all_answered C tells said left text past p none = record {
  calls = p.calls;
  read = p.means ∙ (ap (with_more p.calls) none ∙ ap Ok (append-nil p.calls));
  answered = p.answered;
}

-- the text of the replies and then that of the journal are the output that is asked for
output_is : (what : ScriptPrint) (replies journal : List ℕ) → (if tells_replies what then replies else []) ++ (if tells_journal what then journal else []) ≡ script_output_text what replies journal
output_is Replies replies journal = append-nil replies
output_is Journal replies journal = refl
output_is Both replies journal = refl

-- the answer to calls is the answer to the script that has them
served_is : (what : ScriptPrint) (head : Script) (calls : List Call) (C : Config) (names kinds : List (List ℕ)) (answer : Answer)
    → C ≡ config_of head → names ≡ head.tenants → kinds ≡ head.kinds → IsCallsAnswer what C names kinds calls answer → AreCallsMade what (record head { body = calls }) answer
served_is what head calls C names kinds answer c n k x =
    let answered : AreServed (config_of head) (tells_replies what) calls x.told x.past = subst (λ (D : Config). AreServed D (tells_replies what) calls x.told x.past) c x.answered in
    let journal : journal_text C names kinds x.past ≡ journal_text (config_of head) head.tenants head.kinds x.past =
    ap (λ (D : Config). journal_text D names kinds x.past) c
    ∙ (ap (λ (ns : List (List ℕ)). journal_text (config_of head) ns kinds x.past) n ∙ ap (λ (ks : List (List ℕ)). journal_text (config_of head) head.tenants ks x.past) k) in
    record {
      replies = answered.replies;
      past = x.past;
      outcome = answered.outcome;
      answer_is =
          x.answer_is
          ∙ ap (Text 0) (ap (λ (j : List ℕ). x.told ++ (if tells_journal what then j else [])) journal
          ∙ (ap (λ t. t ++ (if tells_journal what then journal_text (config_of head) head.tenants head.kinds x.past else [])) answered.told
          ∙ output_is what (replies_text answered.replies) (journal_text (config_of head) head.tenants head.kinds x.past)));
    }

-- an answer by the contents of a body is an answer by the contents of the script
body_is : (what : ScriptPrint) (head : Script) (C : Config) (names kinds : List (List ℕ)) (said : Said) (answer : Answer)
    → C ≡ config_of head → names ≡ head.tenants → kinds ≡ head.kinds → IsBodyAnswer what C names kinds said answer → IsReadAnswer script_fault_text (AreCallsMade what) (with_body_lines head said) answer
body_is what head C names kinds (Ok calls) answer c n k x = served_is what head calls C names kinds answer c n k x
body_is what head C names kinds (Err (line, fault)) answer c n k x = x

-- and so to the input
pub opened_is : (what : ScriptPrint) (head : Script) (below : Below) (C : Config) (names kinds : List (List ℕ)) (made : Result Output Stop)
    → C ≡ config_of head → names ≡ head.tenants → kinds ≡ head.kinds → Makes (IsBodyAnswer what C names kinds (said_below call_of_words below)) made
    → (input : List ℕ) → OpensAs input head below → Makes (IsScriptAnswer what input) made
opened_is what head below C names kinds made c n k x input opened =
    makes_as (IsBodyAnswer what C names kinds (said_below call_of_words below)) (IsScriptAnswer what input) made
    (λ answer y. subst (λ read. IsReadAnswer script_fault_text (AreCallsMade what) read answer) (sym (opened.means call_of_words)) (body_is what head C names kinds (said_below call_of_words below) answer c n k y)) x

-- the answer and the stop that name the first fault of a body, or of a script
body_fault : (what : ScriptPrint) (C : Config) (names kinds : List (List ℕ)) (fault : ScriptFault) (said : Said) (answer : Answer) → IsFirstFault fault said → TellsDocumentFault (codes "script") fault answer → IsBodyAnswer what C names kinds said answer
body_fault what C names kinds (faults.At line kind) said answer first x = subst (λ s. IsBodyAnswer what C names kinds s answer) (sym first) x
body_fault what C names kinds faults.NoMemory said answer first x = absurd x

pub body_stop : (what : ScriptPrint) (C : Config) (names kinds : List (List ℕ)) (fault : ScriptFault) (said : Said) (stop : Stop) → IsFirstFault fault said → IsStop (TellsDocumentFault (codes "script") fault) stop → IsStop (IsBodyAnswer what C names kinds said) stop
body_stop what C names kinds fault said stop first x =
    stop_as (TellsDocumentFault (codes "script") fault) (IsBodyAnswer what C names kinds said) stop (λ answer y. body_fault what C names kinds fault said answer first y) x

pub head_stop : (what : ScriptPrint) (input : List ℕ) (fault : ScriptFault) (stop : Stop) → IsHeadFault {A = Call} fault (λ reader. document_of (codes "script") reader input) → IsStop (TellsDocumentFault (codes "script") fault) stop → IsStop (IsScriptAnswer what input) stop
head_stop what input fault stop first x = document_stop (codes "script") (AreCallsMade what) (script_of input) fault stop (first call_of_words) x
