-- Room for the entries that are still to come.
use Rattle.std.proofs.Common.{ℕ, zero, suc, ◌+◌, ◌-◌, ◌*◌, ◌<◌, ◌≤◌, ◌≡◌, ◌==◌, Bool, true, false, [], ◌∷◌, length, Option, Some, None, arith, refl, ap, sym, ◌∙◌, subst, inl, inr}
use Rattle.std.proofs.lemmas.Bool.{cases_eq, eq-eqb, ne_eqb, cond-true, cond-false}
use Rattle.std.proofs.Math.Nat.{div-eq_of_lt-le}
use Rattle.std.proofs.lemmas.Nat.{le-div}
use Rattle.fq_model.specs.declared.event.Act.TheVariants.{Take}
use Rattle.program_model.specs.declared.trace.RunOptions.{RunOptions}
use Rattle.program_model.specs.declared.trace.TraceRow.{TraceRow}
use Rattle.program_model.specs.Courses.{reports_below, with_reports, worker_caller}
use Rattle.fq_model.specs.History.{History, is_taken, is_done, submits, waiting, running, Runs, running_on}
use Rattle.fq_model.specs.Rules.{HasRoom}
use Rattle.program_model.specs.Simulated.{run_config, timed, IsServed}
use Rattle.fq_model.specs.Sums.{sum_below}
use Rattle.program_model.specs.Trace.{Trace}
use Rattle.fq_laws.proofs.History.Workers.{runs_running}
use Rattle.trace_runner.specs.declared.agenda.Agenda.{Agenda}
use Rattle.trace_runner.specs.declared.staff.Work.{Work}
use Rattle.trace_reader.specs.Rows.{row_at}
use Rattle.trace_runner.specs.Plan.{IsPlan, planned_reports}
use Rattle.trace_runner.specs.Simulation.{Serves, Keeps}
use Rattle.trace_runner.specs.Staff.{work_at}
use Rattle.trace_runner.proofs.InLimits.{in_limits}
use Rattle.trace_runner.proofs.Legal.{reports, reports_of, reports_sum, course_reports, counted, sum_le, sum_less, somewhere, untouched, waiting_low}
use Rattle.trace_runner.proofs.Rows.{row_there, row_is, row_known}
use Rattle.trace_runner.proofs.Sums.{sum_by_number}

-- ---- how many Reports there are

timed_reports : (who start i r step k estimate : ℕ) → reports_of (timed who start (with_reports i r step k (Take i r estimate ∷ []))) r ≡ k
timed_reports who start i r step zero estimate = refl
timed_reports who start i r step (suc k) estimate = cond-true _ _ _ (eq-eqb r r refl) ∙ ap suc (timed_reports who start i r step k estimate)

pub served_reports : (T : Trace) (refresh : ℕ) (P : History) (r : ℕ) (row : TraceRow) → IsServed T refresh P r row → reports_of P r ≡ reports_below refresh row.cost
served_reports T refresh P r row s = sym (course_reports P r) ∙ ap (λ Q. reports_of Q r) s.course_is ∙ timed_reports (worker_caller T.rows s.worker) s.start s.worker r refresh (reports_below refresh row.cost) s.estimate

pub serving_reports : (T : Trace) (O : RunOptions) (P : History) (i : ℕ) (w : Work) → (s : Serves T O P i w) → reports_of P s.request ≡ s.reports
serving_reports T O P i w s = sym (course_reports P s.request) ∙ ap (λ Q. reports_of Q s.request) s.course_is ∙ timed_reports (worker_caller T.rows i) w.start i s.request O.refresh s.reports s.estimate

-- k Reports are all where the next would not be below the cost
pub all_reported : (refresh cost k : ℕ) → k * refresh < cost → (refresh ≡ 0 → k ≡ 0) → (0 < refresh → cost ≤ suc k * refresh) → reports_below refresh cost ≡ k
unfolding reports_below
all_reported refresh cost k low none high = elim (cases_eq refresh 0) [
  | inl e ↦ cond-true _ _ _ (eq-eqb refresh 0 e) ∙ sym (none e)
  | inr ne ↦ cond-false _ _ _ (ne_eqb refresh 0 ne) ∙ div-eq_of_lt-le refresh (omega arith) (omega (arith, high (omega arith), suc_times k refresh))
]
  where
    suc_times : (k w : ℕ) → suc k * w ≡ k * w + w
    suc_times k w = omega arith

pub some_left : (refresh cost k : ℕ) → 0 < refresh → k * refresh < cost → k ≤ reports_below refresh cost
unfolding reports_below
some_left refresh cost k pos low = let no : (refresh == 0) ≡ false = ne_eqb refresh 0 (λ e. absurd (omega arith)) in rw no (le-div k (cost - 1) refresh pos (omega arith))

serving_low : (T : Trace) (O : RunOptions) (P : History) (i : ℕ) (w : Work) → (s : Serves T O P i w) → s.reports ≤ reports_below O.refresh w.cost
serving_low T O P i w s = elim (cases_eq O.refresh 0) [
  | inl e ↦ omega (arith, s.no_reports e)
  | inr ne ↦ some_left O.refresh w.cost s.reports (omega arith) s.below
]

serving_planned : (T : Trace) (O : RunOptions) (P : History) (i : ℕ) (w : Work) → (s : Serves T O P i w) → reports_of P s.request ≤ reports_below O.refresh (row_at T.rows s.request).cost
serving_planned T O P i w s =
    let cost : w.cost ≡ (row_at T.rows s.request).cost = s.cost_is ∙ sym (ap (λ (r : TraceRow). r.cost) (row_is T.rows s.request s.row s.row_is)) in
    let low : s.reports ≤ reports_below O.refresh (row_at T.rows s.request).cost = subst (λ c. s.reports ≤ reports_below O.refresh c) cost (serving_low T O P i w s) in
    omega (arith, serving_reports T O P i w s, low)

-- each running request is served by a worker
pub served_by : (T : Trace) (O : RunOptions) (P : History) (a : Agenda) (r i : ℕ) → Keeps T O P a → Runs P i r → (w : Work) × (s : Serves T O P i w) × (s.request ≡ r)
served_by T O P a r i k on = by_work (work_at a.staff i) refl
  where
    runs : running_on P i ≡ Some r
    runs = runs_running (run_config T O) P i r k.legal on

    by_work : (o : Option Work) → work_at a.staff i ≡ o → (w : Work) × (s : Serves T O P i w) × (s.request ≡ r)
    by_work None e = let n : None ≡ Some r = sym (k.idle i e) ∙ runs in absurd (cc)
    by_work (Some w) e = let s = k.works i w e in let b : Some s.request ≡ Some r = sym s.runs ∙ runs in (w, s, cc)

request_planned : (T : Trace) (O : RunOptions) (P : History) (a : Agenda) (r : ℕ) → Keeps T O P a → r < length T.rows → reports_of P r ≤ reports_below O.refresh (row_at T.rows r).cost
request_planned T O P a r k l = by_taken (is_taken P r) refl (is_done P r) refl
  where
    by_taken : (t : Bool) → is_taken P r ≡ t → (d : Bool) → is_done P r ≡ d → reports_of P r ≤ reports_below O.refresh (row_at T.rows r).cost
    by_taken false e d f = omega (arith, course_reports P r, ap (λ Q. reports_of Q r) (untouched (run_config T O) P r k.legal e))
    by_taken true e true f = omega (arith, served_reports T O.refresh P r (row_at T.rows r) (k.served r (row_at T.rows r) (row_there T.rows r l) f))
    by_taken true e false f =
        let on = somewhere P r e f in
        let s = served_by T O P a r on.0 k on.1 in
        subst (λ q. reports_of P q ≤ reports_below O.refresh (row_at T.rows q).cost) s.2 (serving_planned T O P on.0 s.0 s.1)

pub planned_by_number : (T : Trace) (O : RunOptions) → sum_below (λ r. reports_below O.refresh (row_at T.rows r).cost) (length T.rows) ≡ planned_reports T.rows O.refresh
planned_by_number T O = sum_by_number (λ row. reports_below O.refresh row.cost) T.rows

pub reports_low : (T : Trace) (O : RunOptions) (P : History) (a : Agenda) → Keeps T O P a → reports P ≤ planned_reports T.rows O.refresh
reports_low T O P a k = omega (arith, reports_sum (run_config T O) P (length T.rows) k.legal k.rows_left, planned_by_number T O, sum_le (reports_of P) (λ r. reports_below O.refresh (row_at T.rows r).cost) (length T.rows) (λ r b. request_planned T O P a r k b))

pub reports_less : (T : Trace) (O : RunOptions) (P : History) (a : Agenda) (i : ℕ) (w : Work) → Keeps T O P a → (s : Serves T O P i w) → 0 < O.refresh → suc s.reports * O.refresh < w.cost → reports P < planned_reports T.rows O.refresh
reports_less T O P a i w k s pos more =
    let cost : w.cost ≡ (row_at T.rows s.request).cost = s.cost_is ∙ sym (ap (λ (r : TraceRow). r.cost) (row_is T.rows s.request s.row s.row_is)) in
    let left : suc s.reports ≤ reports_below O.refresh (row_at T.rows s.request).cost = subst (λ c. suc s.reports ≤ reports_below O.refresh c) cost (some_left O.refresh w.cost (suc s.reports) pos more) in
    omega (arith, reports_sum (run_config T O) P (length T.rows) k.legal k.rows_left, planned_by_number T O, sum_less (reports_of P) (λ r. reports_below O.refresh (row_at T.rows r).cost) s.request (length T.rows) (row_known T.rows s.request s.row s.row_is) (omega (arith, left, serving_reports T O P i w s)) (λ r b. request_planned T O P a r k b))

-- ---- room

counted_now : (T : Trace) (O : RunOptions) (P : History) (a : Agenda) → IsPlan T O → Keeps T O P a → length P + 2 * waiting P + running P ≡ 3 * submits P + reports P
counted_now T O P a p k = counted (run_config T O) P (in_limits T O p) k.legal k.open_still k.unchanged

pub room_to_submit : (T : Trace) (O : RunOptions) (P : History) (a : Agenda) → IsPlan T O → Keeps T O P a → submits P < length T.rows → HasRoom (run_config T O) P 4
room_to_submit T O P a p k l = omega (arith, counted_now T O P a p k, reports_low T O P a k)

pub room_to_report : (T : Trace) (O : RunOptions) (P : History) (a : Agenda) (i : ℕ) (w : Work) → IsPlan T O → Keeps T O P a → (s : Serves T O P i w) → 0 < O.refresh → suc s.reports * O.refresh < w.cost → HasRoom (run_config T O) P 2
room_to_report T O P a i w p k s pos more = omega (arith, counted_now T O P a p k, reports_less T O P a i w k s pos more, k.rows_left)

pub waiting_few : (T : Trace) (O : RunOptions) (P : History) (a : Agenda) → IsPlan T O → Keeps T O P a → waiting P ≤ submits P
waiting_few T O P a p k = waiting_low (run_config T O) P (in_limits T O p) k.legal
