-- The answers from histories, and from simulated histories.
use Rattle.std.proofs.Common.{ℕ, ◌<◌, ◌≤◌, ◌≡◌, ◌∙◌, sym, ap, subst, refl, arith, Bool, true, false, ◌&&◌, List, length, Result, Ok, Err}
use Rattle.std.proofs.lemmas.Bool.{false≢true, ltb-true, ltb-false, lt-ltb}
use Rattle.fq_laws.proofs.Lists.{list_length}
use Rattle.fq_model.specs.declared.config.Config.{Config}
use Rattle.fq_model.specs.declared.event.Entry.{Entry}
use Rattle.fq_model.specs.declared.limits.TheConstants.{MOST_ENTRIES, TEXT_TENANTS, MOST_ROWS}
use Rattle.fq_model.specs.History.{History, history_of}
use Rattle.fq_model.specs.Limits.{HasTextLimits, IsWithin}
use Rattle.fq_model.specs.Report.{LagReport, lag_report, slot_for, tenant_lag}
use Rattle.fq_model.specs.Rules.{IsLegal}
use Rattle.program_model.specs.declared.command.GenPrint.{GenPrint}
use Rattle.program_model.specs.declared.command.GenPrint.TheVariants as gen
use Rattle.program_model.specs.declared.command.HistoryPrint.{HistoryPrint}
use Rattle.program_model.specs.declared.command.HistoryPrint.TheVariants as prints
use Rattle.program_model.specs.declared.ending.Output.{Output}
use Rattle.program_model.specs.declared.ending.Stop.{Stop}
use Rattle.program_model.specs.Answer.{Answer, Text, IsAnswerUnless}
use Rattle.program_model.specs.HistoryAnswer.{makes_report, has_many_cells, has_many_entries, history_output, history_answer, entries_answer, IsHistoryAnswer}
use Rattle.program_model.specs.ReportText.{lag_summary_text, summary_text}
use Rattle.program_model.specs.GenCommand.{default_run_options, IsGenAnswer}
use Rattle.program_model.specs.Generator.{generated_trace}
use Rattle.program_model.specs.RunCommand.{IsSimulatedAnswer, IsSimulationAnswer}
use Rattle.program_model.specs.declared.trace.RunOptions.{RunOptions}
use Rattle.program_model.specs.Simulated.{needed_entries, run_config}
use Rattle.program_model.specs.Trace.{Trace}
use Rattle.trace_reader.proofs.Generated.{generated_short}
use Rattle.lag_report.specs.Reports.{requests_of}
use Rattle.lag_report.proofs.TenantLines.{rows_count_submits}
use Rattle.command_texts.specs.Histories.{IsReportBy, IsManyCells}
use Rattle.command_texts.specs.Making.{Makes, IsStop}
use Rattle.command_texts.proofs.Making.{stop_as, makes_as, so_answers, else_answers}

-- a report has a row for each tenant
pub report_rows : (slot : ℕ) (C : Config) (H : History) (r : LagReport) → IsReportBy slot C H r → length r.rows ≡ length C.weights
report_rows slot C H r x = ap (λ (q : LagReport). length q.rows) x.report_is ∙ list_length (tenant_lag C H (slot_for C H slot)) (length C.weights)

-- the summary of a report is that of the history
pub summed : (slot : ℕ) (C : Config) (H : History) (r : LagReport) (text : List ℕ) → IsLegal C H → IsReportBy slot C H r → text ≡ lag_summary_text (requests_of r.rows) r → text ≡ summary_text C H (slot_for C H slot)
summed slot C H r text legal x is =
    subst (λ q. text ≡ lag_summary_text (requests_of q.rows) q) x.report_is is
    ∙ ap (λ n. lag_summary_text n (lag_report C H (slot_for C H slot))) (rows_count_submits C H (slot_for C H slot) legal)

both_false : (a b : Bool) → b ≡ false → (a && b) ≡ false
both_false true b is = is
both_false false b is = refl

both_true : (a b : Bool) → a ≡ true → b ≡ true → (a && b) ≡ true
both_true true b made is = is
both_true false b made is = absurd (false≢true made)

-- the answer from a history with few cells is its text
pub few_answer : (print : HistoryPrint) (slot : ℕ) (C : Config) (tenants kinds : List (List ℕ)) (past : List Entry) (text : List ℕ) → has_many_cells slot C (history_of past) ≡ false
    → text ≡ history_output print C tenants kinds past slot → Text 0 text ≡ history_answer print slot C tenants kinds past
few_answer print slot C tenants kinds past text few is =
    rw (both_false (makes_report print) (has_many_cells slot C (history_of past)) few) (ap (Text 0) is)

-- and the answer from one with many cells, where a report is made, is their number
many_answer : (print : HistoryPrint) (slot : ℕ) (C : Config) (tenants kinds : List (List ℕ)) (past : List Entry) (answer : Answer) → makes_report print ≡ true
    → IsManyCells slot C (history_of past) answer → answer ≡ history_answer print slot C tenants kinds past
many_answer print slot C tenants kinds past answer made x =
    rw (both_true (makes_report print) (has_many_cells slot C (history_of past)) made x.many) x.answer_is

pub many_stop : (print : HistoryPrint) (slot : ℕ) (C : Config) (tenants kinds : List (List ℕ)) (past : List Entry) (stop : Stop) → makes_report print ≡ true
    → IsStop (IsManyCells slot C (history_of past)) stop → IsStop (λ answer. answer ≡ history_answer print slot C tenants kinds past) stop
many_stop print slot C tenants kinds past stop made x =
    stop_as (IsManyCells slot C (history_of past)) (λ answer. answer ≡ history_answer print slot C tenants kinds past) stop (λ answer y. many_answer print slot C tenants kinds past answer made y) x

-- a run that ended, and would have failed with too many entries, has few enough
pub few_entries : {A F : Type 0} (needed : ℕ) (s : A) (fault : F) → (MOST_ENTRIES < needed → Ok s ≡ Err fault) → has_many_entries needed ≡ false
few_entries needed s fault over = go (has_many_entries needed) refl
  where
    go : (b : Bool) → has_many_entries needed ≡ b → has_many_entries needed ≡ false
    go true e = let clash : Ok s ≡ Err fault = over (ltb-true MOST_ENTRIES needed e) in absurd (cc)
    go false e = e

-- and it keeps the limits of texts
pub run_limits : (T : Trace) (O : RunOptions) (C : Config) → C ≡ run_config T O → HasTextLimits C
run_limits T O C same = ap (λ (D : Config). D.limits) same

-- an answer from a history is an answer from the history that was asked for
pub of_history : (IsOne : History → Type 0) (needed : ℕ) (print : HistoryPrint) (slot : ℕ) (C D : Config) (tenants kinds : List (List ℕ)) (past : List Entry) (made : Result Output Stop)
    → has_many_entries needed ≡ false → C ≡ D → IsOne (history_of past) → Makes (λ answer. answer ≡ history_answer print slot C tenants kinds past) made
    → Makes (IsAnswerUnless (has_many_entries needed) (entries_answer needed) (IsHistoryAnswer IsOne print slot D tenants kinds)) made
of_history IsOne needed print slot C D tenants kinds past made few config one x =
    makes_as (λ answer. answer ≡ history_answer print slot C tenants kinds past) (IsAnswerUnless (has_many_entries needed) (entries_answer needed) (IsHistoryAnswer IsOne print slot D tenants kinds)) made
    (λ answer y. else_answers (has_many_entries needed) (entries_answer needed) answer (IsHistoryAnswer IsOne print slot D tenants kinds) few
    (record { past = past; is_one = one; answer_is = subst (λ E. answer ≡ history_answer print slot E tenants kinds past) config y })) x

-- the answer where a history would have too many entries
pub of_entries : (Else : Answer → Type 0) (needed entries : ℕ) (stop : Stop) → MOST_ENTRIES < needed → entries ≡ needed → IsStop (λ answer. answer ≡ entries_answer entries) stop
    → IsStop (IsAnswerUnless (has_many_entries needed) (entries_answer needed) Else) stop
of_entries Else needed entries stop many same x =
    stop_as (λ answer. answer ≡ entries_answer entries) (IsAnswerUnless (has_many_entries needed) (entries_answer needed) Else) stop
    (λ answer y. so_answers (has_many_entries needed) (entries_answer needed) answer Else (lt-ltb MOST_ENTRIES needed many) (subst (λ n. answer ≡ entries_answer n) same y)) x

-- and where there are few enough, that of the history alone is
pub else_made : (Else : Answer → Type 0) (needed : ℕ) (made : Result Output Stop) → needed ≤ MOST_ENTRIES → Makes (IsAnswerUnless (has_many_entries needed) (entries_answer needed) Else) made → Makes Else made
else_made Else needed made few x = makes_as (IsAnswerUnless (has_many_entries needed) (entries_answer needed) Else) Else made (λ answer y. go (has_many_entries needed) refl answer y) x
  where
    go : (b : Bool) → has_many_entries needed ≡ b → (answer : Answer) → IsAnswerUnless b (entries_answer needed) Else answer → Else answer
    go true e answer y = absurd (omega (arith, few, ltb-true MOST_ENTRIES needed e))
    go false e answer y = y

-- the summary of a generated trace: its history has few enough entries
pub summary_made : (seed tenants requests : ℕ) (what : GenPrint) (T : Trace) (made : Result Output Stop) → IsWithin 1 TEXT_TENANTS tenants → requests ≤ MOST_ROWS → what ≡ gen.Summary
    → T ≡ generated_trace seed tenants requests → Makes (IsSimulationAnswer default_run_options 0 prints.Summary T) made → Makes (IsGenAnswer seed tenants requests what) made
summary_made seed tenants requests what T made some few is same x =
    let G = generated_trace seed tenants requests in
    let y : Makes (IsSimulationAnswer default_run_options 0 prints.Summary G) made = subst (λ U. Makes (IsSimulationAnswer default_run_options 0 prints.Summary U) made) same x in
    let z : Makes (IsSimulatedAnswer default_run_options 0 prints.Summary G) made =
    else_made (IsSimulatedAnswer default_run_options 0 prints.Summary G) (needed_entries G.rows default_run_options.refresh) made (generated_short seed tenants requests some.0 some.1 few) y in
    subst (λ p. Makes (IsGenAnswer seed tenants requests p) made) (sym is) z
