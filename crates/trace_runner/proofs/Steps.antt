-- The invariant of the simulation at one entry more.
use Rattle.std.proofs.Common.{ℕ, suc, ◌+◌, ◌*◌, ◌<◌, ◌≤◌, ◌≡◌, ◌≢◌, ◌==◌, ◌⊎◌, Bool, true, false, cond, min, List, [], ◌∷◌, length, Option, Some, None, arith, refl, ap, sym, ◌∙◌, subst, inl, inr, set, get_or-set_same, get_or-set_other}
use Rattle.std.proofs.lemmas.Bool.{cases_eq, cases_lt, eq-eqb, ne_eqb, cond-true, cond-false}
use Rattle.vt_fixed.specs.declared.limits.TheConstants.{GREATEST_MOMENT}
use Rattle.fq_model.specs.declared.event.Act.{Act}
use Rattle.fq_model.specs.declared.event.Entry.{Entry}
use Rattle.program_model.specs.declared.trace.RunOptions.{RunOptions}
use Rattle.program_model.specs.declared.trace.TraceRow.{TraceRow}
use Rattle.program_model.specs.Courses.{serves, worker_caller}
use Rattle.fq_model.specs.History.{History, Runs, running_on, running_after}
use Rattle.fq_model.specs.Rules.{FitsUse}
use Rattle.program_model.specs.Simulated.{run_config, rank, RankBefore, InTurn, IsServed, AllRun, RunsSomething, IsSettled}
use Rattle.fq_model.specs.Time.{last_moment}
use Rattle.program_model.specs.Trace.{Trace}
use Rattle.fq_laws.proofs.History.Workers.{running_runs, runs_on_one}
use Rattle.trace_runner.specs.declared.agenda.Agenda.{Agenda}
use Rattle.trace_runner.specs.declared.staff.Work.{Work}
use Rattle.trace_runner.specs.Plan.{IsPlan}
use Rattle.trace_runner.specs.Agenda.{ComesBy, NoneTakes}
use Rattle.trace_runner.specs.Simulation.{FollowsLast, InTime, Serves, Keeps}
use Rattle.trace_runner.specs.Staff.{work_at, work_moment, work_rank, ComesBefore, IsIdle, IsSmall}
use Rattle.trace_runner.proofs.Legal.{unused}
use Rattle.trace_runner.proofs.Rows.{lawful_row}
use Rattle.std.proofs.lemmas.List.{get_or_past}

-- ---- turns

pub follows_low : (P : History) (m : ℕ) (place : ℕ × ℕ) → FollowsLast P m place → last_moment P ≤ m
follows_low [] m place f = omega arith
follows_low (e ∷ P) m place (inl l) = omega arith
follows_low (e ∷ P) m place (inr s) = omega (arith, s.0)

by_rank : (m n : ℕ) (a b : ℕ × ℕ) → ComesBefore m a n b → m ≡ n → RankBefore a b
by_rank m n a b (inl l) e = absurd (omega arith)
by_rank m n a b (inr s) e = s.1

pub in_turn_now : (P : History) (e : Entry) → FollowsLast P e.moment (rank e.act) → InTurn P e
in_turn_now [] e f = tt
in_turn_now (d ∷ P) e f = λ same open_d open_e. by_rank _ _ _ _ f same

first_of : (a b c d : ℕ) → ◌≡◌ {A = ℕ × ℕ} (a, b) (c, d) → a ≡ c
first_of a b c d e = ap (λ (p : ℕ × ℕ). p.0) e

second_of : (a b c d : ℕ) → ◌≡◌ {A = ℕ × ℕ} (a, b) (c, d) → b ≡ d
second_of a b c d e = ap (λ (p : ℕ × ℕ). p.1) e

-- another worker's entry comes later
pub other_work : (m c i j : ℕ) (x : Work) → j ≢ i → ComesBy m (c, i) (work_moment x) (work_rank j x) → ComesBefore m (c, i) (work_moment x) (work_rank j x)
other_work m c i j x ne (inl s) = absurd (ne (sym (second_of _ _ _ _ s.1)))
other_work m c i j x ne (inr b) = b

-- so does each worker's where the entry is a Submit or a Take
pub any_work : (m c i j : ℕ) (x : Work) → 2 ≤ c → ComesBy m (c, i) (work_moment x) (work_rank j x) → ComesBefore m (c, i) (work_moment x) (work_rank j x)
any_work m c i j x high (inl s) = absurd (low (x.due == x.cost) (first_of _ _ _ _ s.1))
  where
    low : (b : Bool) → c ≡ cond b 1 0 → ⊥
    low true e = omega arith
    low false e = omega arith
any_work m c i j x high (inr b) = b

pub any_row : (m c i n r : ℕ) → c ≢ 2 → ComesBy m (c, i) n (2, r) → ComesBefore m (c, i) n (2, r)
any_row m c i n r ne (inl s) = absurd (ne (first_of _ _ _ _ s.1))
any_row m c i n r ne (inr b) = b

-- ---- moments

pub not_late : (T : Trace) (O : RunOptions) (P : History) (a : Agenda) (m : ℕ) → IsPlan T O → Keeps T O P a → InTime P m → m ≤ GREATEST_MOMENT
not_late T O P a m p k t = omega (arith, t, k.rows_left, p.lawful.few)

pub small_work : (T : Trace) (O : RunOptions) (P : History) (a : Agenda) (w : Work) → IsPlan T O → Keeps T O P a → InTime P (w.start + w.cost) → w.due ≤ w.cost → IsSmall w
small_work T O P a w p k t le = record { ends = not_late T O P a (w.start + w.cost) p k t; due = le }

-- ---- workers

-- a fact of each worker's work, where one is set
pub at_set : (F : ℕ → Option Work → Type 0) (works : List (Option Work)) (i : ℕ) (v : Option Work) → i < length works → F i v → ((j : ℕ) → j ≢ i → F j (work_at works j)) → (j : ℕ) → F j (work_at (set works i v) j)
at_set F works i v l here others j = elim (cases_eq j i) [
  | inl e ↦ subst (λ s. F s (work_at (set works i v) s)) (sym e) (subst (F i) (sym (get_or-set_same works i v None l)) here)
  | inr ne ↦ subst (F j) (sym (get_or-set_other works i j v None ne)) (others j ne)
]

runs_some : (T : Trace) (O : RunOptions) (P : History) (a : Agenda) (j : ℕ) → Keeps T O P a → (IsIdle a.staff j → ⊥) → j < O.workers → RunsSomething P j
runs_some T O P a j k busy l = by_work (work_at a.staff j) refl
  where
    by_work : (o : Option Work) → work_at a.staff j ≡ o → RunsSomething P j
    by_work None e = absurd (busy (record { known = omega (arith, k.workers); idle = e }))
    by_work (Some x) e = let s = k.works j x e in (s.request, running_runs (run_config T O) P j s.request k.legal s.runs)

pub settled_now : (T : Trace) (O : RunOptions) (P : History) (a : Agenda) → Keeps T O P a → NoneTakes a → IsSettled O.workers P
settled_now T O P a k (inl z) = inl (omega (arith, k.waiting_is))
settled_now T O P a k (inr none) = inr (λ j l. runs_some T O P a j k (none j) l)

pub lower_run : (T : Trace) (O : RunOptions) (P : History) (a : Agenda) (i : ℕ) → Keeps T O P a → i < length a.staff → ((j : ℕ) → IsIdle a.staff j → i ≤ j) → AllRun P i
lower_run T O P a i k known least = λ j l. runs_some T O P a j k (λ d. absurd (omega (arith, least j d))) (omega (arith, k.workers))

-- who else runs, runs another request
pub others_differ : (T : Trace) (O : RunOptions) (P : History) (a : Agenda) (i j r q : ℕ) → Keeps T O P a → running_on P i ≡ Some r → running_on P j ≡ Some q → j ≢ i → (r == q) ≡ false
others_differ T O P a i j r q k on oj ne = ne_eqb r q (λ e.
    let vi : Runs P i r = running_runs (run_config T O) P i r k.legal on in
    let vj : Runs P j q = running_runs (run_config T O) P j q k.legal oj in
    absurd (ne (sym (runs_on_one (run_config T O) P i j q k.legal (subst (Runs P i) e vi) vj))))

-- a worker that the entry does not touch
pub serves_stays : (T : Trace) (O : RunOptions) (P : History) (e : Entry) (j : ℕ) (x : Work) → (s : Serves T O P j x) → running_after j e.act (running_on P j) ≡ running_on P j → serves s.request e.act ≡ false → (InTime P (x.start + x.cost) → InTime (e ∷ P) (x.start + x.cost)) → Serves T O (e ∷ P) j x
serves_stays T O P e j x s same other time = record {
  request = s.request;
  row = s.row;
  row_is = s.row_is;
  runs = same ∙ s.runs;
  cost_is = s.cost_is;
  reports = s.reports;
  due_is = s.due_is;
  below = s.below;
  no_reports = s.no_reports;
  estimate = s.estimate;
  course_is = cond-false (serves s.request e.act) _ _ other ∙ s.course_is;
  used_is = omega (arith, unused s.request e.act other, s.used_is);
  in_time = time s.in_time;
}

-- a request that the entry does not serve
pub served_stays : (T : Trace) (refresh : ℕ) (P : History) (e : Entry) (r : ℕ) (row : TraceRow) → serves r e.act ≡ false → IsServed T refresh P r row → IsServed T refresh (e ∷ P) r row
served_stays T refresh P e r row other s = record {
  worker = s.worker;
  start = s.start;
  estimate = s.estimate;
  course_is = cond-false (serves r e.act) _ _ other ∙ s.course_is;
}

-- the use that a worker may report of its request
pub fits_use : (T : Trace) (O : RunOptions) (P : History) (a : Agenda) (i used : ℕ) (w : Work) → IsPlan T O → Keeps T O P a → (s : Serves T O P i w) → s.reports * O.refresh ≤ used → used ≤ w.cost → FitsUse P i s.request used
fits_use T O P a i used w p k s low high = record {
  runs = running_runs (run_config T O) P i s.request k.legal s.runs;
  rising = omega (arith, s.used_is);
  in_range = omega (arith, high, s.cost_is, (lawful_row T s.request s.row p.lawful s.row_is).cost);
}

abbrev pub worker_entry : Trace → ℕ → ℕ → Act → Entry
worker_entry T i m act = record { who = worker_caller T.rows i; moment = m; act = act }

-- a worker that serves a request is one of them
pub worker_known : (works : List (Option Work)) (i : ℕ) (w : Work) → work_at works i ≡ Some w → i < length works
worker_known works i w e = elim (cases_lt i (length works)) [
  | inl l ↦ l
  | inr g ↦ let n : None ≡ Some w = sym (get_or_past works i None g) ∙ e in absurd (cc)
]

pub some_same : (w x : Work) → Some w ≡ Some x → w ≡ x
some_same w x e = cc

-- ---- a Report

-- the next Report, or the Done
pub due_cases : (T : Trace) (O : RunOptions) (P : History) (i : ℕ) (w : Work) → (s : Serves T O P i w) → ((O.refresh ≡ 0) × (w.due ≡ w.cost)) ⊎ ((0 < O.refresh) × (w.due ≡ min (suc s.reports * O.refresh) w.cost))
due_cases T O P i w s = elim (cases_eq O.refresh 0) [
  | inl e ↦ inl (e, s.due_is ∙ cond-true (O.refresh == 0) _ _ (eq-eqb O.refresh 0 e))
  | inr ne ↦ inr (omega arith, s.due_is ∙ cond-false (O.refresh == 0) _ _ (ne_eqb O.refresh 0 ne))
]

pub record ReportsNext (O : RunOptions) (w : Work) (reports : ℕ) : Type 0 where
  pub some_refresh : 0 < O.refresh
  pub due_is : w.due ≡ suc reports * O.refresh
  pub more : suc reports * O.refresh < w.cost

pub reports_next : (T : Trace) (O : RunOptions) (P : History) (i : ℕ) (w : Work) → (s : Serves T O P i w) → w.due < w.cost → ReportsNext O w s.reports
reports_next T O P i w s l = elim (due_cases T O P i w s) [
  | inl e ↦ absurd (omega (arith, e.1))
  | inr e ↦ record { some_refresh = e.0; due_is = omega (arith, e.1); more = omega (arith, e.1) }
]
