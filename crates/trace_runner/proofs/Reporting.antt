-- The invariant of the simulation at a Report.
use Rattle.std.proofs.Common.{ℕ, suc, ◌+◌, ◌*◌, ◌<◌, ◌≤◌, ◌≡◌, ◌==◌, true, min, ◌∷◌, Some, None, arith, refl, sym, ◌∙◌, subst, inl, inr, set, length-set}
use Rattle.std.specs.Prelude.{slice_get}
use Rattle.std.proofs.lemmas.Bool.{eq-eqb, ne_eqb, both_ways, cond-true, cond-false}
use Rattle.fq_model.specs.declared.event.Act.TheVariants.{Report}
use Rattle.fq_model.specs.declared.event.Entry.{Entry}
use Rattle.program_model.specs.declared.trace.RunOptions.{RunOptions}
use Rattle.program_model.specs.Courses.{course, worker_caller}
use Rattle.fq_model.specs.History.{History, is_closed, is_done, waiting, running_on}
use Rattle.program_model.specs.Trace.{Trace}
use Rattle.fq_laws.proofs.History.Counts.{waiting_report}
use Rattle.trace_runner.specs.declared.agenda.Agenda.{Agenda}
use Rattle.trace_runner.specs.declared.staff.Work.{Work}
use Rattle.trace_runner.specs.Plan.{IsPlan}
use Rattle.trace_runner.specs.Agenda.{ByWorks, ByRows, NoneTakes}
use Rattle.trace_runner.specs.Simulation.{FollowsLast, InTime, Serves, Keeps}
use Rattle.trace_runner.specs.Staff.{work_at, work_moment, work_rank, ComesBefore, reported_work}
use Rattle.trace_runner.proofs.Order.{report_rank}
use Rattle.trace_runner.proofs.Room.{room_to_report}
use Rattle.trace_runner.proofs.Steps.{follows_low, in_turn_now, other_work, any_row, not_late, at_set, settled_now, others_differ, serves_stays, served_stays, fits_use, worker_entry, worker_known, some_same, ReportsNext, reports_next}

-- worker i has a Report now
pub record AtReport (T : Trace) (O : RunOptions) (P : History) (a : Agenda) (i : ℕ) (w : Work) : Type 0 where
  pub plan : IsPlan T O
  pub keeps : Keeps T O P a
  pub at : work_at a.staff i ≡ Some w
  pub below : w.due < w.cost
  pub works : ByWorks a.staff (work_moment w) (0, i)
  pub requests : ByRows T.rows a.submitted (work_moment w) (0, i)
  pub settled : a.moment < work_moment w → NoneTakes a

abbrev pub report_entry : Trace → ℕ → ℕ → Work → Entry
report_entry T i r w = worker_entry T i (work_moment w) (Report i r w.due)

abbrev pub reported_agenda : Agenda → ℕ → Work → ℕ → Agenda
reported_agenda a i w refresh = record a { staff = set a.staff i (Some (reported_work w refresh)); moment = work_moment w }

-- the worker that is reported on
reported_serves : (T : Trace) (O : RunOptions) (P : History) (i : ℕ) (w : Work) → (s : Serves T O P i w) → ReportsNext O w s.reports → Serves T O (report_entry T i s.request w ∷ P) i (reported_work w O.refresh)
reported_serves T O P i w s n =
    let yes : (s.request == s.request) ≡ true = eq-eqb s.request s.request refl in
    let times : suc (suc s.reports) * O.refresh ≡ suc s.reports * O.refresh + O.refresh = omega arith in
    let due : min (w.due + O.refresh) w.cost ≡ min (suc (suc s.reports) * O.refresh) w.cost = omega (arith, n.due_is, times) in
    let here : course (report_entry T i s.request w ∷ P) s.request ≡ report_entry T i s.request w ∷ course P s.request = cond-true (s.request == s.request) _ _ yes in
    let told : Rattle.fq_model.specs.History.use_in s.request (Report i s.request w.due) ≡ w.due = cond-true (s.request == s.request) _ _ yes in
    record {
      request = s.request;
      row = s.row;
      row_is = s.row_is;
      runs = s.runs;
      cost_is = s.cost_is;
      reports = suc s.reports;
      due_is = due ∙ sym (cond-false (O.refresh == 0) _ _ (ne_eqb O.refresh 0 (λ z. absurd (omega (arith, n.some_refresh)))));
      below = n.more;
      no_reports = λ z. absurd (omega (arith, n.some_refresh));
      estimate = s.estimate;
      course_is = here ∙ rw (s.course_is, n.due_is) refl;
      used_is = omega (arith, told, s.used_is, n.due_is);
      in_time = omega (arith, s.in_time, waiting_report P (worker_caller T.rows i) (work_moment w) i s.request w.due);
    }

pub keeps_report : (T : Trace) (O : RunOptions) (P : History) (a : Agenda) (i : ℕ) (w : Work) → (g : AtReport T O P a i w) → Keeps T O (report_entry T i (g.keeps.works i w g.at).request w ∷ P) (reported_agenda a i w O.refresh)
unfolding is_closed is_done
keeps_report T O P a i w g =
    let k = g.keeps in
    let s = k.works i w g.at in
    let n = reports_next T O P i w s g.below in
    let e : Entry = report_entry T i s.request w in
    let Q : History = e ∷ P in
    let wait : waiting Q ≡ waiting P = waiting_report P (worker_caller T.rows i) (work_moment w) i s.request w.due in
    let known = worker_known a.staff i w g.at in
    let turn : FollowsLast P (work_moment w) (0, i) = subst (FollowsLast P (work_moment w)) (report_rank i w g.below) (k.works_follow i w g.at) in
    let rising : s.reports * O.refresh ≤ w.due = omega (arith, n.due_is) in
    let fit = fits_use T O P a i w.due w g.plan k s rising (omega (arith, g.below)) in
    let now : InTime P (work_moment w) = omega (arith, s.in_time, g.below) in
    record {
      legal = (k.legal, follows_low P (work_moment w) (0, i) turn, not_late T O P a (work_moment w) g.plan k now, (fit, room_to_report T O P a i w g.plan k s n.some_refresh n.more));
      open_still = k.open_still;
      unchanged = k.unchanged;
      caller_is = k.caller_is;
      moment_is = refl;
      submitted_is = k.submitted_is;
      waiting_is = k.waiting_is ∙ sym wait;
      rows_left = k.rows_left;
      workers = length-set a.staff i _ ∙ k.workers;
      requests = k.requests;
      served = λ r row is d. served_stays T O.refresh P e r row (ne_eqb s.request r (λ q. both_ways _ fit.runs.not_done (subst (λ x. is_done P x ≡ true) (sym q) d))) (k.served r row is d);
      works = at_set (λ j o. (x : Work) → o ≡ Some x → Serves T O Q j x) a.staff i (Some (reported_work w O.refresh)) known
          (λ x is. subst (Serves T O Q i) (some_same _ _ is) (reported_serves T O P i w s n))
          (λ j ne x is. serves_stays T O P e j x (k.works j x is) refl (others_differ T O P a i j s.request (k.works j x is).request k s.runs (k.works j x is).runs ne) (λ t. omega (arith, t, wait)));
      idle = at_set (λ j o. o ≡ None → running_on P j ≡ None) a.staff i (Some (reported_work w O.refresh)) known (λ is. absurd (cc)) (λ j ne is. k.idle j is);
      in_turn = (k.in_turn, in_turn_now P e turn);
      busy = (k.busy, record { lower_run = tt; settled = λ h. elim h [ inl l ↦ settled_now T O P a k (g.settled (omega (arith, l, k.moment_is))) | inr c ↦ absurd (cc) ] });
      in_time = omega (arith, now, wait);
      works_follow = at_set (λ j o. (x : Work) → o ≡ Some x → ComesBefore (work_moment w) (0, i) (work_moment x) (work_rank j x)) a.staff i (Some (reported_work w O.refresh)) known
          (λ x is. subst (λ y. ComesBefore (work_moment w) (0, i) (work_moment y) (work_rank i y)) (some_same _ _ is) (inl (omega (arith, n.due_is, n.some_refresh, g.below))))
          (λ j ne x is. other_work (work_moment w) 0 i j x ne (g.works j x is));
      rows_follow = λ row is. subst (λ r. ComesBefore (work_moment w) (0, i) row.moment (2, r)) k.submitted_is (any_row (work_moment w) 0 i row.moment a.submitted (λ z. absurd (omega arith)) (g.requests row (subst (λ r. slice_get T.rows r ≡ Some row) (sym k.submitted_is) is)));
      idle_follow = λ j d. inr (refl, inl (omega arith));
    }
