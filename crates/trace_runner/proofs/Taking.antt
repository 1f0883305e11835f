-- The invariant of the simulation at a Take.
use Rattle.std.proofs.Common.{ℕ, suc, ◌+◌, ◌-◌, ◌*◌, ◌<◌, ◌≤◌, ◌≡◌, ◌==◌, true, false, cond, min, [], ◌∷◌, length, Some, None, arith, refl, ap, sym, ◌∙◌, subst, inl, inr, get_or, set, length-set}
use Rattle.std.proofs.lemmas.Bool.{cases_eq, eq-eqb, ne_eqb, both_ways, cond-true, cond-false}
use Rattle.fq_model.specs.declared.event.Act.TheVariants.{Take}
use Rattle.fq_model.specs.declared.event.Entry.{Entry}
use Rattle.program_model.specs.declared.trace.RunOptions.{RunOptions}
use Rattle.program_model.specs.Courses.{worker_caller}
use Rattle.fq_model.specs.History.{History, is_closed, is_done, is_taken, submits, waiting, running_on}
use Rattle.fq_model.specs.Rules.{FitsTake}
use Rattle.program_model.specs.Simulated.{run_config, timed}
use Rattle.fq_model.specs.Time.{last_moment}
use Rattle.program_model.specs.Trace.{Trace}
use Rattle.fq_laws.proofs.History.Asked.{waits_submitted, waits_untaken}
use Rattle.fq_laws.proofs.History.Numbers.{waiting_taken}
use Rattle.fq_laws.proofs.History.Requests.{submitted_below, done_taken}
use Rattle.fq_laws.proofs.History.Workers.{running_runs, took}
use Rattle.fq_laws.proofs.Rules.Takes.{take_waits}
use Rattle.trace_runner.specs.declared.agenda.Agenda.{Agenda}
use Rattle.trace_runner.specs.declared.staff.Work.{Work}
use Rattle.trace_reader.specs.Rows.{row_at}
use Rattle.trace_runner.specs.Plan.{IsPlan}
use Rattle.trace_runner.specs.Agenda.{ByWorks, ByRows}
use Rattle.trace_runner.specs.Simulation.{FollowsLast, Serves, Keeps}
use Rattle.trace_runner.specs.Staff.{work_at, work_moment, work_rank, ComesBefore, IsIdle, new_work}
use Rattle.trace_runner.proofs.InLimits.{in_limits}
use Rattle.trace_runner.proofs.Legal.{untouched, no_use}
use Rattle.trace_runner.proofs.Rows.{lawful_row, row_there}
use Rattle.trace_runner.proofs.Steps.{in_turn_now, any_work, any_row, not_late, at_set, lower_run, serves_stays, served_stays, worker_entry, some_same}

-- worker i takes r now
pub record AtTake (T : Trace) (O : RunOptions) (P : History) (a : Agenda) (i r estimate : ℕ) : Type 0 where
  pub plan : IsPlan T O
  pub keeps : Keeps T O P a
  pub idle : IsIdle a.staff i
  pub least : (j : ℕ) → IsIdle a.staff j → i ≤ j
  pub works : ByWorks a.staff (last_moment P) (3, i)
  pub requests : ByRows T.rows (submits P) (last_moment P) (3, i)
  pub fits : FitsTake (run_config T O) P (last_moment P) i r estimate

abbrev pub take_entry : Trace → History → ℕ → ℕ → ℕ → Entry
take_entry T P i r estimate = worker_entry T i (last_moment P) (Take i r estimate)

abbrev pub work_of : Trace → RunOptions → History → ℕ → Work
work_of T O P r = new_work (last_moment P) (row_at T.rows r).cost O.refresh

abbrev pub taken_agenda : Trace → RunOptions → History → Agenda → ℕ → ℕ → Agenda
taken_agenda T O P a i r = record a { staff = set a.staff i (Some (work_of T O P r)); waiting = a.waiting - 1 }

-- the request that is taken is a request of the trace
pub taken_row : (T : Trace) (O : RunOptions) (P : History) (a : Agenda) (i r estimate m : ℕ) → Keeps T O P a → FitsTake (run_config T O) P m i r estimate → r < length T.rows
taken_row T O P a i r estimate m k f =
    let wt = take_waits (run_config T O) P m i r estimate f in
    omega (arith, submitted_below (run_config T O) P r k.legal (waits_submitted P r wt), k.rows_left)

-- its first entry comes later
pub due_some : (start cost refresh : ℕ) → 1 ≤ cost → (1 ≤ (new_work start cost refresh).due) × ((new_work start cost refresh).due ≤ cost)
due_some start cost refresh c = elim (cases_eq refresh 0) [
  | inl e ↦ let d : (new_work start cost refresh).due ≡ cost = cond-true (refresh == 0) _ _ (eq-eqb refresh 0 e) in (omega (arith, d), omega (arith, d))
  | inr ne ↦ let d : (new_work start cost refresh).due ≡ min refresh cost = cond-false (refresh == 0) _ _ (ne_eqb refresh 0 ne) in (omega (arith, d), omega (arith, d))
]

new_due : (start cost refresh : ℕ) → (new_work start cost refresh).due ≡ cond (refresh == 0) cost (min (suc 0 * refresh) cost)
new_due start cost refresh = let one : suc 0 * refresh ≡ refresh = omega arith in rw one refl

taken_serves : (T : Trace) (O : RunOptions) (P : History) (a : Agenda) (i r estimate : ℕ) → (g : AtTake T O P a i r estimate) → waiting (take_entry T P i r estimate ∷ P) + 1 ≡ waiting P → Serves T O (take_entry T P i r estimate ∷ P) i (work_of T O P r)
taken_serves T O P a i r estimate g wait =
    let k = g.keeps in
    let l = taken_row T O P a i r estimate (last_moment P) k g.fits in
    let lawful = lawful_row T r (row_at T.rows r) g.plan.lawful (row_there T.rows r l) in
    let untaken = waits_untaken P r (take_waits (run_config T O) P (last_moment P) i r estimate g.fits) in
    record {
      request = r;
      row = row_at T.rows r;
      row_is = row_there T.rows r l;
      runs = cond-true (i == i) _ _ (eq-eqb i i refl);
      cost_is = refl;
      reports = 0;
      due_is = new_due (last_moment P) (row_at T.rows r).cost O.refresh;
      below = omega (arith, lawful.cost);
      no_reports = λ z. refl;
      estimate = estimate;
      course_is = cond-true (r == r) _ _ (eq-eqb r r refl) ∙ ap (λ es. take_entry T P i r estimate ∷ es) (untouched (run_config T O) P r k.legal untaken) ∙ at_start;
      used_is = omega (arith, no_use (run_config T O) P r k.legal untaken);
      in_time = omega (arith, k.in_time, lawful.cost, wait);
    }
  where
    at_start : take_entry T P i r estimate ∷ [] ≡ timed (worker_caller T.rows i) (last_moment P) (Take i r estimate ∷ [])
    at_start = let z : last_moment P + 0 ≡ last_moment P = omega arith in rw z refl

pub keeps_take : (T : Trace) (O : RunOptions) (P : History) (a : Agenda) (i r estimate : ℕ) → (g : AtTake T O P a i r estimate) → Keeps T O (take_entry T P i r estimate ∷ P) (taken_agenda T O P a i r)
unfolding is_closed is_done
keeps_take T O P a i r estimate g =
    let k = g.keeps in
    let e : Entry = take_entry T P i r estimate in
    let Q : History = e ∷ P in
    let wait : suc (waiting Q) ≡ waiting P = waiting_taken (run_config T O) P (worker_caller T.rows i) (last_moment P) i r estimate (in_limits T O g.plan) k.legal g.fits in
    let turn : FollowsLast P (last_moment P) (3, i) = k.idle_follow i g.idle in
    let untaken = waits_untaken P r (take_waits (run_config T O) P (last_moment P) i r estimate g.fits) in
    let new : Serves T O Q i (work_of T O P r) = taken_serves T O P a i r estimate g (omega (arith, wait)) in
    let l = taken_row T O P a i r estimate (last_moment P) k g.fits in
    let lawful = lawful_row T r (row_at T.rows r) g.plan.lawful (row_there T.rows r l) in
    let due = due_some (last_moment P) (row_at T.rows r).cost O.refresh lawful.cost.0 in
    let other : (j q : ℕ) → running_on P j ≡ Some q → (r == q) ≡ false = λ j q on. ne_eqb r q (λ x. both_ways _ untaken (subst (λ y. is_taken P y ≡ true) (sym x) (took P j q (running_runs (run_config T O) P j q k.legal on).taken))) in
    record {
      legal = (k.legal, omega arith, not_late T O P a (last_moment P) g.plan k k.in_time, g.fits);
      open_still = k.open_still;
      unchanged = k.unchanged;
      caller_is = k.caller_is;
      moment_is = k.moment_is;
      submitted_is = k.submitted_is;
      waiting_is = omega (arith, k.waiting_is, wait);
      rows_left = k.rows_left;
      workers = length-set a.staff i _ ∙ k.workers;
      requests = k.requests;
      served = λ q row is d. served_stays T O.refresh P e q row (ne_eqb r q (λ x. both_ways _ untaken (subst (λ y. is_taken P y ≡ true) (sym x) (done_taken (run_config T O) P q k.legal d)))) (k.served q row is d);
      works = at_set (λ j o. (x : Work) → o ≡ Some x → Serves T O Q j x) a.staff i (Some (work_of T O P r)) g.idle.known
          (λ x is. subst (Serves T O Q i) (some_same _ _ is) new)
          (λ j ne x is. serves_stays T O P e j x (k.works j x is) (cond-false (i == j) _ _ (ne_eqb i j (λ q. ne (sym q)))) (other j (k.works j x is).request (k.works j x is).runs) (λ t. omega (arith, t, wait)));
      idle = at_set (λ j o. o ≡ None → running_on Q j ≡ None) a.staff i (Some (work_of T O P r)) g.idle.known (λ is. absurd (cc)) (λ j ne is. cond-false (i == j) _ _ (ne_eqb i j (λ q. ne (sym q))) ∙ k.idle j is);
      in_turn = (k.in_turn, in_turn_now P e turn);
      busy = (k.busy, record { lower_run = lower_run T O P a i k g.idle.known g.least; settled = λ h. elim h [ inl x ↦ absurd (omega (arith, x)) | inr c ↦ absurd (cc) ] });
      in_time = omega (arith, k.in_time, wait);
      works_follow = at_set (λ j o. (x : Work) → o ≡ Some x → ComesBefore (last_moment P) (3, i) (work_moment x) (work_rank j x)) a.staff i (Some (work_of T O P r)) g.idle.known
          (λ x is. subst (λ y. ComesBefore (last_moment P) (3, i) (work_moment y) (work_rank i y)) (some_same _ _ is) (inl (omega (arith, due.0))))
          (λ j ne x is. any_work (last_moment P) 3 i j x (omega arith) (g.works j x is));
      rows_follow = λ row is. any_row (last_moment P) 3 i row.moment (submits P) (λ z. absurd (omega arith)) (g.requests row is);
      idle_follow = λ j d. inr (refl, inr (refl, later j d));
    }
  where
    later : (j : ℕ) → IsIdle (set a.staff i (Some (work_of T O P r))) j → i < j
    later j d = elim (cases_eq j i) [
      | inl q ↦ absurd (
          let s : work_at (set a.staff i (Some (work_of T O P r))) i ≡ Some (work_of T O P r) = Rattle.std.proofs.Common.get_or-set_same a.staff i (Some (work_of T O P r)) None g.idle.known in
          let n : None ≡ Some (work_of T O P r) = sym d.idle ∙ ap (work_at (set a.staff i (Some (work_of T O P r)))) q ∙ s in cc
          )
      | inr ne ↦
          let was : work_at a.staff j ≡ None = sym (Rattle.std.proofs.Common.get_or-set_other a.staff i j (Some (work_of T O P r)) None ne) ∙ d.idle in
          omega (arith, g.least j (record { known = omega (arith, d.known, length-set a.staff i (Some (work_of T O P r))); idle = was }), ne)
    ]
