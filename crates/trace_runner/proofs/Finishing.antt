-- The invariant of the simulation at a Done.
use Rattle.std.proofs.Common.{ℕ, ◌*◌, ◌<◌, ◌≤◌, ◌≡◌, ◌==◌, true, false, ◌∷◌, Some, None, arith, refl, ap, sym, ◌∙◌, subst, inl, inr, set, length-set}
use Rattle.std.specs.Prelude.{slice_get}
use Rattle.std.proofs.lemmas.Bool.{cases_eq, eq-eqb, ne_eqb, cond-true, cond-false}
use Rattle.fq_model.specs.declared.event.Act.TheVariants.{Done}
use Rattle.fq_model.specs.declared.event.Entry.{Entry}
use Rattle.program_model.specs.declared.trace.RunOptions.{RunOptions}
use Rattle.program_model.specs.declared.trace.TraceRow.{TraceRow}
use Rattle.program_model.specs.Courses.{course, worker_caller, reports_below}
use Rattle.fq_model.specs.History.{History, is_closed, is_done, waiting, running_on}
use Rattle.program_model.specs.Simulated.{IsServed}
use Rattle.program_model.specs.Trace.{Trace}
use Rattle.fq_laws.proofs.History.Counts.{waiting_done}
use Rattle.trace_runner.specs.declared.agenda.Agenda.{Agenda}
use Rattle.trace_runner.specs.declared.staff.Work.{Work}
use Rattle.trace_runner.specs.Plan.{IsPlan}
use Rattle.trace_runner.specs.Agenda.{ByWorks, ByRows, NoneTakes}
use Rattle.trace_runner.specs.Simulation.{FollowsLast, InTime, Serves, Keeps}
use Rattle.trace_runner.specs.Staff.{work_at, work_moment, work_rank, ComesBefore}
use Rattle.trace_runner.proofs.Order.{done_rank}
use Rattle.trace_runner.proofs.Room.{all_reported}
use Rattle.trace_runner.proofs.Steps.{follows_low, in_turn_now, other_work, any_row, not_late, at_set, settled_now, others_differ, serves_stays, served_stays, fits_use, worker_entry, worker_known, due_cases}

-- worker i has a Done now
pub record AtDone (T : Trace) (O : RunOptions) (P : History) (a : Agenda) (i : ℕ) (w : Work) : Type 0 where
  pub plan : IsPlan T O
  pub keeps : Keeps T O P a
  pub at : work_at a.staff i ≡ Some w
  pub whole : w.due ≡ w.cost
  pub works : ByWorks a.staff (work_moment w) (1, i)
  pub requests : ByRows T.rows a.submitted (work_moment w) (1, i)
  pub settled : a.moment < work_moment w → NoneTakes a

abbrev pub done_entry : Trace → ℕ → ℕ → Work → Entry
done_entry T i r w = worker_entry T i (work_moment w) (Done i r w.cost)

abbrev pub finished_agenda : Agenda → ℕ → Work → Agenda
finished_agenda a i w = record a { staff = set a.staff i None; moment = work_moment w }

-- no Report is left
none_left : (T : Trace) (O : RunOptions) (P : History) (i : ℕ) (w : Work) → (s : Serves T O P i w) → w.due ≡ w.cost → reports_below O.refresh w.cost ≡ s.reports
none_left T O P i w s whole = all_reported O.refresh w.cost s.reports s.below s.no_reports (λ pos. elim (due_cases T O P i w s) [
  | inl e ↦ absurd (omega (arith, e.0))
  | inr e ↦ omega (arith, e.1, whole)
])

served_now : (T : Trace) (O : RunOptions) (P : History) (i : ℕ) (w : Work) → (s : Serves T O P i w) → w.due ≡ w.cost → IsServed T O.refresh (done_entry T i s.request w ∷ P) s.request s.row
served_now T O P i w s whole =
    let yes : (s.request == s.request) ≡ true = eq-eqb s.request s.request refl in
    let here : course (done_entry T i s.request w ∷ P) s.request ≡ done_entry T i s.request w ∷ course P s.request = cond-true (s.request == s.request) _ _ yes in
    let all : reports_below O.refresh s.row.cost ≡ s.reports = subst (λ c. reports_below O.refresh c ≡ s.reports) s.cost_is (none_left T O P i w s whole) in
    record {
      worker = i;
      start = w.start;
      estimate = s.estimate;
      course_is = here ∙ rw (s.course_is, all, whole, s.cost_is) refl;
    }

-- the worker runs nothing more
idle_now : (T : Trace) (P : History) (i r : ℕ) (w : Work) → running_on (done_entry T i r w ∷ P) i ≡ None
idle_now T P i r w = cond-true (i == i) _ _ (eq-eqb i i refl)

pub keeps_done : (T : Trace) (O : RunOptions) (P : History) (a : Agenda) (i : ℕ) (w : Work) → (g : AtDone T O P a i w) → Keeps T O (done_entry T i (g.keeps.works i w g.at).request w ∷ P) (finished_agenda a i w)
unfolding is_closed is_done
keeps_done T O P a i w g =
    let k = g.keeps in
    let s = k.works i w g.at in
    let e : Entry = done_entry T i s.request w in
    let Q : History = e ∷ P in
    let wait : waiting Q ≡ waiting P = waiting_done P (worker_caller T.rows i) (work_moment w) i s.request w.cost in
    let known = worker_known a.staff i w g.at in
    let turn : FollowsLast P (work_moment w) (1, i) = subst (FollowsLast P (work_moment w)) (done_rank i w g.whole) (k.works_follow i w g.at) in
    let rising : s.reports * O.refresh ≤ w.cost = omega (arith, s.below) in
    let fit = fits_use T O P a i w.cost w g.plan k s rising (omega arith) in
    let now : InTime P (work_moment w) = omega (arith, s.in_time, g.whole) in
    record {
      legal = (k.legal, follows_low P (work_moment w) (1, i) turn, not_late T O P a (work_moment w) g.plan k now, fit);
      open_still = k.open_still;
      unchanged = k.unchanged;
      caller_is = k.caller_is;
      moment_is = refl;
      submitted_is = k.submitted_is;
      waiting_is = k.waiting_is ∙ sym wait;
      rows_left = k.rows_left;
      workers = length-set a.staff i _ ∙ k.workers;
      requests = k.requests;
      served = λ r row is d. elim (cases_eq s.request r) [
        | inl q ↦
            let both : s.row ≡ row = some_row s.row row (sym s.row_is ∙ ap (slice_get T.rows) q ∙ is) in
            subst (λ x. IsServed T O.refresh Q x row) q (subst (λ x. IsServed T O.refresh Q s.request x) both (served_now T O P i w s g.whole))
        | inr ne ↦
            let no : (s.request == r) ≡ false = ne_eqb s.request r ne in
            served_stays T O.refresh P e r row no (k.served r row is (rw no at d))
      ];
      works = at_set (λ j o. (x : Work) → o ≡ Some x → Serves T O Q j x) a.staff i None known
          (λ x is. absurd (cc))
          (λ j ne x is. serves_stays T O P e j x (k.works j x is) (cond-false (i == j) _ _ (ne_eqb i j (λ q. ne (sym q)))) (others_differ T O P a i j s.request (k.works j x is).request k s.runs (k.works j x is).runs ne) (λ t. omega (arith, t, wait)));
      idle = at_set (λ j o. o ≡ None → running_on Q j ≡ None) a.staff i None known (λ is. idle_now T P i s.request w) (λ j ne is. cond-false (i == j) _ _ (ne_eqb i j (λ q. ne (sym q))) ∙ k.idle j is);
      in_turn = (k.in_turn, in_turn_now P e turn);
      busy = (k.busy, record { lower_run = tt; settled = λ h. elim h [ inl l ↦ settled_now T O P a k (g.settled (omega (arith, l, k.moment_is))) | inr c ↦ absurd (cc) ] });
      in_time = omega (arith, now, wait);
      works_follow = at_set (λ j o. (x : Work) → o ≡ Some x → ComesBefore (work_moment w) (1, i) (work_moment x) (work_rank j x)) a.staff i None known
          (λ x is. absurd (cc))
          (λ j ne x is. other_work (work_moment w) 1 i j x ne (g.works j x is));
      rows_follow = λ row is. subst (λ r. ComesBefore (work_moment w) (1, i) row.moment (2, r)) k.submitted_is (any_row (work_moment w) 1 i row.moment a.submitted (λ z. absurd (omega arith)) (g.requests row (subst (λ r. slice_get T.rows r ≡ Some row) (sym k.submitted_is) is)));
      idle_follow = λ j d. inr (refl, inl (omega arith));
    }
  where
    some_row : (x y : TraceRow) → Some x ≡ Some y → x ≡ y
    some_row x y e = cc
