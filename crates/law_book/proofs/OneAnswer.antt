-- Answers to one input.
use Rattle.std.proofs.Common.{ℕ, ◌≡◌, ◌∙◌, sym, ap, refl, subst, Bool, true, false, List, [], ◌++◌, reverse, Option, Some, None, Result, Ok, Err, ◌⊎◌}
use Rattle.std.proofs.lemmas.Bool.{false≢true}
use Rattle.std.proofs.lemmas.List.{reverse-reverse}
use Rattle.fq_model.specs.declared.config.Config.{Config}
use Rattle.fq_model.specs.declared.event.Entry.{Entry}
use Rattle.fq_model.specs.declared.event.Reply.{Reply}
use Rattle.fq_model.specs.History.{History, history_of}
use Rattle.fq_laws.proofs.Outcome.{outcome_from_one}
use Rattle.program_model.specs.declared.command.Command.{Command}
use Rattle.program_model.specs.declared.command.Command.TheVariants.{Plain, Live, Compare}
use Rattle.program_model.specs.declared.command.GenPrint.{GenPrint}
use Rattle.program_model.specs.declared.command.GenPrint.TheVariants as gen
use Rattle.program_model.specs.declared.command.HistoryPrint.{HistoryPrint}
use Rattle.program_model.specs.declared.command.HistoryPrint.TheVariants as history
use Rattle.program_model.specs.declared.command.PlainCommand.{PlainCommand}
use Rattle.program_model.specs.declared.command.PlainCommand.TheVariants.{Script, Run, Gen, Check, Lead, Shape}
use Rattle.program_model.specs.declared.command.ScriptPrint.{ScriptPrint}
use Rattle.program_model.specs.declared.trace.RunOptions.{RunOptions}
use Rattle.program_model.specs.declared.trace.TraceRow.{TraceRow}
use Rattle.program_model.specs.declared.verdict.Verdict.{Verdict}
use Rattle.program_model.specs.declared.verdict.Verdict.TheVariants.{Legal, Bad}
use Rattle.program_model.specs.Answer.{Answer, Text, Message, answer_status, message_line, IsReadAnswer, IsAnswerUnless}
use Rattle.program_model.specs.CheckCommand.{verdict_status, request_explained, IsExplanationIfAny, IsJudged}
use Rattle.program_model.specs.CompareCommand.{IsRowsAnswer, IsLongAnswer, IsComparisonAnswer}
use Rattle.program_model.specs.Commands.{is_live, IsPlainAnswer, IsAnswer}
use Rattle.program_model.specs.Conforms.{too_big, too_late}
use Rattle.program_model.specs.Document.{config_of}
use Rattle.program_model.specs.FaultTexts.{script_fault_text, journal_fault_text, trace_fault_text}
use Rattle.program_model.specs.GenCommand.{default_run_options, IsGeneratedAnswer}
use Rattle.program_model.specs.Generator.{generated_trace}
use Rattle.program_model.specs.HistoryAnswer.{IsHistoryAnswer, history_answer, has_many_entries, entries_answer}
use Rattle.program_model.specs.Journal.{Journal, journal_of}
use Rattle.program_model.specs.JournalText.{journal_text}
use Rattle.program_model.specs.LeadCommand.{lead_answer, IsLeadTold}
use Rattle.program_model.specs.RunCommand.{IsSimulatedAnswer, IsSimulationAnswer}
use Rattle.program_model.specs.Script.{Script as Calls, script_of}
use Rattle.program_model.specs.ScriptCommand.{script_output_text, AreCallsMade}
use Rattle.program_model.specs.ShapeCommand.{big_text, moments_answer, IsSizedAnswer, IsShapedAnswer}
use Rattle.program_model.specs.Simulated.{needed_entries, run_config, IsSimulated}
use Rattle.program_model.specs.Texts.{replies_text}
use Rattle.program_model.specs.Trace.{Trace}
use Rattle.program_model.specs.TraceGrammar.{trace_of}
use Rattle.program_model.specs.TraceText.{IsLawfulTrace}
use Rattle.program_model.specs.Verdicts.{IsVerdict}
use Rattle.program_model.specs.VerdictTexts.{verdict_text}
use Rattle.journal_check.proofs.OneExplanation.{one_explanation}
use Rattle.journal_check.proofs.OneVerdict.{one_verdict}
use Rattle.trace_reader.proofs.Generated.{generated_lawful}
use Rattle.trace_reader.proofs.Lawful.{lawful}
use Rattle.trace_shape.proofs.Least.{least_is_one}
use Rattle.trace_runner.proofs.Only.{one_simulated}
use Rattle.law_book.proofs.OneComparison.{one_comparison}
use Rattle.law_book.specs.Programs.{IsPlainWithinLimits, IsWithinLimits}

-- one history is one list of entries in order of time
one_past : (past later : List Entry) → history_of past ≡ history_of later → past ≡ later
one_past past later same = sym (reverse-reverse past) ∙ (ap reverse same ∙ reverse-reverse later)

-- one history has one answer
one_history : (IsOne : History → Type 0) (print : HistoryPrint) (slot : ℕ) (C : Config) (tenants kinds : List (List ℕ)) (a b : Answer) → ((H K : History) → IsOne H → IsOne K → H ≡ K)
    → IsHistoryAnswer IsOne print slot C tenants kinds a → IsHistoryAnswer IsOne print slot C tenants kinds b → a ≡ b
one_history IsOne print slot C tenants kinds a b one x y =
    x.answer_is ∙ (ap (history_answer print slot C tenants kinds) (one_past x.past y.past (one (history_of x.past) (history_of y.past) x.is_one y.is_one)) ∙ sym y.answer_is)

one_unless : (many : Bool) (so a b : Answer) (Else : Answer → Type 0) → (Else a → Else b → a ≡ b) → IsAnswerUnless many so Else a → IsAnswerUnless many so Else b → a ≡ b
one_unless true so a b Else one x y = x ∙ sym y
one_unless false so a b Else one x y = one x y

-- an input has one answer at most where its contents, if it has them, have one at most
one_read : {A F : Type 0} (fault_text : F → List ℕ) (IsOf : A → Answer → Type 0) (read : Result A (ℕ × F)) (a b : Answer) → ((said : A) → read ≡ Ok said → IsOf said a → IsOf said b → a ≡ b)
    → IsReadAnswer fault_text IsOf read a → IsReadAnswer fault_text IsOf read b → a ≡ b
one_read fault_text IsOf (Ok said) a b one x y = one said refl x y
one_read fault_text IsOf (Err (line, fault)) a b one x y = x ∙ sym y

module _ (options : RunOptions) (slot : ℕ) (print : HistoryPrint) (T : Trace) (a b : Answer) (fair : IsLawfulTrace T) where
  one_simulated_answer : IsSimulatedAnswer options slot print T a → IsSimulatedAnswer options slot print T b → a ≡ b
  one_simulated_answer x y = one_history (IsSimulated T options) print slot (run_config T options) T.tenants T.kinds a b (λ H K s t. one_simulated T options H K fair.few s t) x y

  one_simulation : IsSimulationAnswer options slot print T a → IsSimulationAnswer options slot print T b → a ≡ b
  one_simulation x y = one_unless (has_many_entries (needed_entries T.rows options.refresh)) (entries_answer (needed_entries T.rows options.refresh)) a b (IsSimulatedAnswer options slot print T) one_simulated_answer x y

-- calls are answered in one way
one_made : (print : ScriptPrint) (script : Calls) (a b : Answer) → AreCallsMade print script a → AreCallsMade print script b → a ≡ b
one_made print script a b x y =
    let same = outcome_from_one (config_of script) [] (history_of x.past) (history_of y.past) script.body x.replies y.replies x.outcome y.outcome in
    x.answer_is
    ∙ (ap (λ (replies : List Reply). Text 0 (script_output_text print (replies_text replies) (journal_text (config_of script) script.tenants script.kinds x.past))) same.0
    ∙ (ap (λ (past : List Entry). Text 0 (script_output_text print (replies_text y.replies) (journal_text (config_of script) script.tenants script.kinds past))) (one_past x.past y.past same.1)
    ∙ sym y.answer_is))

one_generated : (print : GenPrint) (T : Trace) (a b : Answer) → IsLawfulTrace T → IsGeneratedAnswer print T a → IsGeneratedAnswer print T b → a ≡ b
one_generated gen.Trace T a b fair x y = x ∙ sym y
one_generated gen.Summary T a b fair x y = one_simulated_answer default_run_options 0 history.Summary T a b fair x y

-- a journal has one verdict, and the explanation of a request of a legal one has one text
one_explained : (asked : Option ℕ) (journal : Journal) (verdict : Verdict) (text other : List ℕ) → IsVerdict (config_of journal) journal.body verdict
    → IsExplanationIfAny journal (request_explained verdict asked) text → IsExplanationIfAny journal (request_explained verdict asked) other → text ≡ other
one_explained None journal Legal text other legal x y = x ∙ sym y
one_explained (Some request) journal Legal text other legal x y =
    x.text_is ∙ (one_explanation (config_of journal) journal.body journal.tenants request x.explained y.explained legal x.explains y.explains ∙ sym y.text_is)
one_explained asked journal (Bad place reply wanted) text other bad x y = x ∙ sym y

one_judged : (asked : Option ℕ) (journal : Journal) (a b : Answer) → IsJudged asked journal a → IsJudged asked journal b → a ≡ b
one_judged asked journal a b x y =
    let same = one_verdict (config_of journal) journal.body x.verdict y.verdict x.is_verdict y.is_verdict in
    let other : IsExplanationIfAny journal (request_explained x.verdict asked) y.explanation = subst (λ (v : Verdict). IsExplanationIfAny journal (request_explained v asked) y.explanation) (sym same) y.explains in
    let text = one_explained asked journal x.verdict x.explanation y.explanation x.is_verdict x.explains other in
    x.answer_is
    ∙ (ap (λ t. Text (verdict_status x.verdict) (verdict_text journal.body x.verdict ++ t)) text
    ∙ (ap (λ (v : Verdict). Text (verdict_status v) (verdict_text journal.body v ++ y.explanation)) same
    ∙ sym y.answer_is))

one_lead : (of over : List ℕ) (journal : Journal) (a b : Answer) → IsLeadTold of over journal a → IsLeadTold of over journal b → a ≡ b
one_lead of over journal a b x y =
    let same = one_verdict (config_of journal) journal.body x.verdict y.verdict x.is_verdict y.is_verdict in
    x.answer_is ∙ (ap (lead_answer of over journal) same ∙ sym y.answer_is)

-- a trace has one shaped answer, since its least moments are one list
one_sized : (rate burst : ℕ) (T : Trace) (big : Option ℕ) (a b : Answer) → IsSizedAnswer rate burst T big a → IsSizedAnswer rate burst T big b → a ≡ b
one_sized rate burst T None a b x y =
    x.answer_is ∙ (ap (λ (ms : List ℕ). moments_answer T ms (too_late ms)) (least_is_one T rate burst x.moments y.moments x.least y.least) ∙ sym y.answer_is)
one_sized rate burst T (Some r) a b x y =
    let same : Some x.row ≡ Some y.row = sym x.row_is ∙ y.row_is in
    let row : x.row ≡ y.row = cc in
    x.answer_is ∙ (ap (λ (row : TraceRow). Message 7 (message_line (big_text r row.declared burst))) row ∙ sym y.answer_is)

one_plain : (command : PlainCommand) (input : List ℕ) (a b : Answer) → IsPlainWithinLimits command → IsPlainAnswer command input a → IsPlainAnswer command input b → a ≡ b
one_plain (Script print) input a b some x y = one_read script_fault_text (AreCallsMade print) (script_of input) a b (λ script is. one_made print script a b) x y
one_plain (Run options slot print) input a b some x y =
    one_read trace_fault_text (IsSimulationAnswer options slot print) (trace_of input) a b (λ T is. one_simulation options slot print T a b (lawful input T is)) x y
one_plain (Gen seed tenants requests print) input a b some x y =
    one_generated print (generated_trace seed tenants requests) a b (generated_lawful seed tenants requests some.0.0 some.0.1 some.1) x y
one_plain (Check explain) input a b some x y = one_read journal_fault_text (IsJudged explain) (journal_of input) a b (λ journal is. one_judged explain journal a b) x y
one_plain (Lead of over) input a b some x y =
    one_read journal_fault_text (IsLeadTold of over) (journal_of input) a b (λ journal is. one_lead of over journal a b) x y
one_plain (Shape rate burst) input a b some x y =
    one_read trace_fault_text (IsShapedAnswer rate burst) (trace_of input) a b (λ T is. one_sized rate burst T (too_big T burst) a b) x y

pub one_answer : (Told : ℕ → Type 0) (command : Command) (input : List ℕ) (a b : Answer) → is_live command ≡ false → IsWithinLimits command → IsAnswer Told command input a → IsAnswer Told command input b → a ≡ b
one_answer Told (Plain command) input a b plain some x y = one_plain command input a b some x y
one_answer Told (Live options) input a b plain some x y = absurd (false≢true (sym plain))
one_answer Told (Compare options) input a b plain some x y =
    one_read trace_fault_text (IsComparisonAnswer options) (trace_of input) a b
    (λ T is. one_unless (has_many_entries (needed_entries T.rows options.refresh)) (entries_answer (needed_entries T.rows options.refresh)) a b (λ c. IsRowsAnswer T options c ⊎ IsLongAnswer T options c) (one_comparison T options (lawful input T is) a b)) x y

pub one_status : (Told : ℕ → Type 0) (command : Command) (input : List ℕ) (a b : Answer) → is_live command ≡ false → IsWithinLimits command → IsAnswer Told command input a → IsAnswer Told command input b → answer_status a ≡ answer_status b
one_status Told command input a b plain some x y = ap answer_status (one_answer Told command input a b plain some x y)
