-- Each input is answered. (That least moments are there is a law of `trace_shape`, and comes as a premise.)
use Rattle.std.proofs.Common.{ℕ, ◌≡◌, ◌≤◌, refl, sym, ap, subst, arith, Bool, true, false, nat_lt, get_or, List, [], ◌++◌, length, ◌⊎◌, reverse, Option, Some, None, Result, Ok, Err, ltb-false}
use Rattle.std.specs.Prelude.{codes, position, slice_get}
use Rattle.std.proofs.lemmas.Bool.{false≢true}
use Rattle.std.proofs.lemmas.List.{reverse-reverse}
use Rattle.std.proofs.lemmas.List.Quantifiers.{position-Some}
use Rattle.std.proofs.lemmas.Option.{slice_get-get_or}
use Rattle.fq_model.specs.declared.config.Config.{Config}
use Rattle.fq_model.specs.declared.limits.TheConstants.{MOST_ENTRIES}
use Rattle.fq_model.specs.History.{History}
use Rattle.fq_model.specs.Limits.{InLimits}
use Rattle.fq_model.specs.Outcome.{Outcome}
use Rattle.fq_laws.proofs.Outcome.{outcome_exists}
use Rattle.program_model.specs.declared.command.Command.{Command}
use Rattle.program_model.specs.declared.command.Command.TheVariants.{Plain, Live, Compare}
use Rattle.program_model.specs.declared.command.GenPrint.{GenPrint}
use Rattle.program_model.specs.declared.command.GenPrint.TheVariants as gen
use Rattle.program_model.specs.declared.command.HistoryPrint.{HistoryPrint}
use Rattle.program_model.specs.declared.command.HistoryPrint.TheVariants as history
use Rattle.program_model.specs.declared.command.PlainCommand.{PlainCommand}
use Rattle.program_model.specs.declared.command.PlainCommand.TheVariants.{Script, Run, Gen, Check, Lead, Shape}
use Rattle.program_model.specs.declared.command.ScriptPrint.{ScriptPrint}
use Rattle.program_model.specs.declared.compare.CompareOptions.{CompareOptions}
use Rattle.program_model.specs.declared.ending.Failure.TheVariants.{TooLong}
use Rattle.program_model.specs.declared.trace.RunOptions.{RunOptions}
use Rattle.program_model.specs.declared.trace.TraceRow.{TraceRow}
use Rattle.program_model.specs.Answer.{Answer, Text, Message, answer_status, message_line, fault_answer, IsReadAnswer, IsAnswerUnless}
use Rattle.program_model.specs.CheckCommand.{verdict_status, request_explained, IsExplanationIfAny, IsJudged}
use Rattle.program_model.specs.CommandLimits.{IsPlainInRange, IsInRange}
use Rattle.program_model.specs.Commands.{IsPlainAnswer, IsAnswer}
use Rattle.program_model.specs.CompareCommand.{IsComparisonAnswer, IsRowsAnswer, IsLongAnswer}
use Rattle.program_model.specs.Conforms.{too_big, too_late}
use Rattle.program_model.specs.Document.{config_of}
use Rattle.program_model.specs.Ending.{failure_message}
use Rattle.program_model.specs.FaultTexts.{script_fault_text, journal_fault_text, trace_fault_text}
use Rattle.program_model.specs.GenCommand.{default_run_options, IsGeneratedAnswer}
use Rattle.program_model.specs.Generator.{generated_trace}
use Rattle.program_model.specs.HistoryAnswer.{IsHistoryAnswer, history_answer, has_many_entries, entries_answer}
use Rattle.program_model.specs.Journal.{Journal, journal_of, entry_of_words}
use Rattle.program_model.specs.JournalText.{journal_text}
use Rattle.program_model.specs.LeadCommand.{lead_answer, IsLeadTold}
use Rattle.program_model.specs.Program.{greatest_input}
use Rattle.program_model.specs.RunCommand.{IsSimulatedAnswer, IsSimulationAnswer}
use Rattle.program_model.specs.RunLimits.{AreInRange, CanCompare}
use Rattle.program_model.specs.Script.{Script as Calls, script_of, call_of_words}
use Rattle.program_model.specs.ScriptCommand.{script_output_text, AreCallsMade}
use Rattle.program_model.specs.ShapeCommand.{big_text, moments_answer, IsSizedAnswer, IsShapedAnswer}
use Rattle.program_model.specs.Simulated.{needed_entries, run_config, IsSimulated}
use Rattle.program_model.specs.Texts.{replies_text}
use Rattle.program_model.specs.Trace.{Trace}
use Rattle.program_model.specs.TraceGrammar.{trace_of}
use Rattle.program_model.specs.TraceText.{IsLawfulTrace, trace_text}
use Rattle.program_model.specs.VerdictTexts.{verdict_text, explanation_text}
use Rattle.trace_reader.proofs.Generated.{generated_lawful, generated_short}
use Rattle.trace_reader.proofs.Lawful.{lawful}
use Rattle.trace_runner.specs.Plan.{IsPlan}
use Rattle.trace_shape.specs.Laws.{LeastIsThere}
use Rattle.law_book.specs.Programs.{IsWithinLimits, SomeAnswer, SomeStatus}
use Rattle.law_book.proofs.DocumentLimits.{document_limits}
use Rattle.law_book.proofs.Exists.{simulation_exists}
use Rattle.law_book.proofs.OneAnswer.{one_answer}
use Rattle.law_book.proofs.SomeComparison.{some_comparison}
use Rattle.law_book.proofs.SomeExplanation.{some_explanation}
use Rattle.law_book.proofs.SomeVerdict.{some_verdict}

-- there is such an answer
abbrev Answered : (Answer → Type 0) → Type 0
Answered Is = (answer : Answer) × Is answer

some_unless : (many : Bool) (so : Answer) (Else : Answer → Type 0) → (many ≡ false → Answered Else) → Answered (IsAnswerUnless many so Else)
some_unless true so Else some = (so, refl)
some_unless false so Else some = some refl

-- an input has an answer where its contents, if it has them, have one
some_read : {A F : Type 0} (fault_text : F → List ℕ) (IsOf : A → Answer → Type 0) (read : Result A (ℕ × F)) → ((said : A) → read ≡ Ok said → Answered (IsOf said))
    → Answered (IsReadAnswer fault_text IsOf read)
some_read fault_text IsOf (Ok said) some = some said refl
some_read fault_text IsOf (Err (line, fault)) some = (fault_answer line (fault_text fault), refl)

-- a history has an answer
some_history : (IsOne : History → Type 0) (print : HistoryPrint) (slot : ℕ) (C : Config) (tenants kinds : List (List ℕ)) → (H : History) → IsOne H → Answered (IsHistoryAnswer IsOne print slot C tenants kinds)
some_history IsOne print slot C tenants kinds H is =
    (history_answer print slot C tenants kinds (reverse H), record { past = reverse H; is_one = subst IsOne (sym (reverse-reverse H)) is; answer_is = refl })

some_simulated : (options : RunOptions) (slot : ℕ) (print : HistoryPrint) (T : Trace) → IsPlan T options → Answered (IsSimulatedAnswer options slot print T)
some_simulated options slot print T plan =
    let H = simulation_exists T options plan in
    some_history (IsSimulated T options) print slot (run_config T options) T.tenants T.kinds H.0 H.1

few_entries : (needed : ℕ) → has_many_entries needed ≡ false → needed ≤ MOST_ENTRIES
few_entries needed few = ltb-false MOST_ENTRIES needed few

some_simulation : (options : RunOptions) (slot : ℕ) (print : HistoryPrint) (T : Trace) → AreInRange options → IsLawfulTrace T → Answered (IsSimulationAnswer options slot print T)
some_simulation options slot print T limits fair =
    let needed = needed_entries T.rows options.refresh in
    some_unless (has_many_entries needed) (entries_answer needed) (IsSimulatedAnswer options slot print T)
    (λ few. some_simulated options slot print T (record { lawful = fair; options = limits; few = few_entries needed few }))

-- calls are answered
some_made : (print : ScriptPrint) (script : Calls) → InLimits (config_of script) → Answered (AreCallsMade print script)
some_made print script limits =
    let made = outcome_exists (config_of script) script.body limits in
    let past = reverse made.1 in (
      Text 0 (script_output_text print (replies_text made.0) (journal_text (config_of script) script.tenants script.kinds past)),
      record {
        replies = made.0;
        past = past;
        outcome = subst (Outcome (config_of script) script.body made.0) (sym (reverse-reverse made.1)) made.2;
        answer_is = refl;
      },
    )

some_generated : (seed tenants requests : ℕ) (print : GenPrint) → IsPlainInRange (Gen seed tenants requests print) → Answered (IsGeneratedAnswer print (generated_trace seed tenants requests))
some_generated seed tenants requests gen.Trace limits = (Text 0 (trace_text (generated_trace seed tenants requests)), refl)
some_generated seed tenants requests gen.Summary limits =
    some_simulated default_run_options 0 history.Summary (generated_trace seed tenants requests) (record {
      lawful = generated_lawful seed tenants requests limits.0.0 limits.0.1 limits.1;
      options = record { workers = (omega arith, omega arith); initial = (omega arith, omega arith); refresh = omega arith };
      few = generated_short seed tenants requests limits.0.0 limits.0.1 limits.1;
    })

-- the explanation of a request, if one is asked about
some_text : (asked : Option ℕ) (journal : Journal) → InLimits (config_of journal) → (text : List ℕ) × IsExplanationIfAny journal asked text
some_text None journal limits = ([], refl)
some_text (Some request) journal limits =
    let x = some_explanation (config_of journal) journal.body request limits in
    (explanation_text journal.tenants request x.0, record { explained = x.0; explains = x.1; text_is = refl })

-- a journal is judged
some_judged : (asked : Option ℕ) (journal : Journal) → InLimits (config_of journal) → Answered (IsJudged asked journal)
some_judged asked journal limits =
    let v = some_verdict (config_of journal) journal.body limits in
    let text = some_text (request_explained v.0 asked) journal limits in (
      Text (verdict_status v.0) (verdict_text journal.body v.0 ++ text.0),
      record { verdict = v.0; is_verdict = v.1; explanation = text.0; explains = text.1; answer_is = refl },
    )

some_lead : (of over : List ℕ) (journal : Journal) → InLimits (config_of journal) → Answered (IsLeadTold of over journal)
some_lead of over journal limits =
    let v = some_verdict (config_of journal) journal.body limits in
    (lead_answer of over journal v.0, record { verdict = v.0; is_verdict = v.1; answer_is = refl })

-- the row that declares too much
row_there : (rows : List TraceRow) (burst r : ℕ) → position (λ row. nat_lt burst row.declared) rows ≡ Some r → (row : TraceRow) × (slice_get rows r ≡ Some row)
row_there rows burst r is =
    let none : TraceRow = record { moment = 0; submitter = 0; tenant = 0; kind = 0; declared = 0; cost = 0 } in
    (get_or rows r none, slice_get-get_or rows r none (position-Some (λ (row : TraceRow). nat_lt burst row.declared) rows r none is).0)

some_sized : LeastIsThere → (rate burst : ℕ) (T : Trace) (big : Option ℕ) → too_big T burst ≡ big → IsLawfulTrace T → 1 ≤ rate → Answered (IsSizedAnswer rate burst T big)
some_sized least_there rate burst T None small fair gains =
    let least = least_there T rate burst fair gains small in
    (moments_answer T least.0 (too_late least.0), record { moments = least.0; least = least.1; answer_is = refl })
some_sized least_there rate burst T (Some r) big fair gains =
    let row = row_there T.rows burst r big in
    (Message 7 (message_line (big_text r row.0.declared burst)), record { row = row.0; row_is = row.1; answer_is = refl })

some_compared : (o : CompareOptions) (T : Trace) → CanCompare o → IsLawfulTrace T → Answered (IsComparisonAnswer o T)
some_compared o T limits fair =
    let needed = needed_entries T.rows o.refresh in
    some_unless (has_many_entries needed) (entries_answer needed) (λ a. IsRowsAnswer T o a ⊎ IsLongAnswer T o a)
    (λ few. some_comparison T o fair limits (few_entries needed few))

some_plain : LeastIsThere → (command : PlainCommand) (input : List ℕ) → IsPlainInRange command → Answered (IsPlainAnswer command input)
some_plain least_there (Script print) input limits =
    some_read script_fault_text (AreCallsMade print) (script_of input) (λ script is. some_made print script (document_limits (codes "script") call_of_words input script is))
some_plain least_there (Run options slot print) input limits =
    some_read trace_fault_text (IsSimulationAnswer options slot print) (trace_of input) (λ T is. some_simulation options slot print T limits.0 (lawful input T is))
some_plain least_there (Gen seed tenants requests print) input limits = some_generated seed tenants requests print limits
some_plain least_there (Check asked) input limits =
    some_read journal_fault_text (IsJudged asked) (journal_of input) (λ journal is. some_judged asked journal (document_limits (codes "journal") entry_of_words input journal is))
some_plain least_there (Lead of over) input limits =
    some_read journal_fault_text (IsLeadTold of over) (journal_of input) (λ journal is. some_lead of over journal (document_limits (codes "journal") entry_of_words input journal is))
some_plain least_there (Shape rate burst) input limits =
    some_read trace_fault_text (IsShapedAnswer rate burst) (trace_of input) (λ T is. some_sized least_there rate burst T (too_big T burst) refl (lawful input T is) limits.0.0)

pub some_answer : LeastIsThere → (Told : ℕ → Type 0) → SomeAnswer Told
some_answer least_there Told (Plain command) input plain limits = some_plain least_there command input limits
some_answer least_there Told (Live options) input plain limits = absurd (false≢true (sym plain))
some_answer least_there Told (Compare options) input plain limits =
    some_read trace_fault_text (IsComparisonAnswer options) (trace_of input) (λ T is. some_compared options T limits (lawful input T is))

-- ---- one status

within_limits : (command : Command) → IsInRange command → IsWithinLimits command
within_limits (Plain (Gen seed tenants requests print)) limits = limits
within_limits _ limits = tt

-- there is just one answer, where `Else` has just one
one_said : (long : Bool) (so : Answer) (Else : Answer → Type 0) → Answered Else → ((a b : Answer) → Else a → Else b → a ≡ b)
    → (answer : Answer) × IsAnswerUnless long so Else answer × ((other : Answer) → IsAnswerUnless long so Else other → other ≡ answer)
one_said true so Else some one = (so, refl, λ other is. is)
one_said false so Else some one = (some.0, some.1, λ other is. one other some.0 is some.1)

pub some_status : (Told : ℕ → Type 0) → SomeAnswer Told → SomeStatus Told
some_status Told some command input plain limits =
    let said = one_said (nat_lt greatest_input (length input)) (Message 3 (failure_message TooLong)) (IsAnswer Told command input) (some command input plain limits)
    (λ a b x y. one_answer Told command input a b plain (within_limits command limits) x y) in
    (answer_status said.0, record { answer = said.0; is_said = said.1; status_is = refl }, λ answer is. ap answer_status (said.2 answer is))
