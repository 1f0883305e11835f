-- Each plan has a simulated history.
use Rattle.std.proofs.Common.{ℕ, zero, suc, ◌+◌, ◌<◌, ◌≤◌, ◌≡◌, ◌≢◌, ◌⊎◌, Bool, true, false, max, List, [], ◌∷◌, length, Option, Some, None, arith, refl, ap, sym, ◌∙◌, subst, inl, inr, get_or, MatchOption}
use Rattle.std.specs.Prelude.{slice_get}
use Rattle.std.proofs.lemmas.Bool.{cases_eq, cases_lt}
use Rattle.program_model.specs.declared.trace.RunOptions.{RunOptions}
use Rattle.program_model.specs.declared.trace.TraceRow.{TraceRow}
use Rattle.fq_model.specs.History.{History, waiting}
use Rattle.program_model.specs.Simulated.{run_config, IsSimulated, needed_entries}
use Rattle.fq_model.specs.Time.{last_moment}
use Rattle.program_model.specs.Trace.{Trace}
use Rattle.fq_laws.proofs.Rules.Answers.{chosen_exists}
use Rattle.fq_laws.proofs.Rules.Limits.{length_entries}
use Rattle.trace_runner.specs.declared.agenda.Agenda.{Agenda}
use Rattle.trace_runner.specs.declared.agenda.Event.{Event}
use Rattle.trace_runner.specs.declared.agenda.EventCall.{EventCall}
use Rattle.trace_runner.specs.declared.agenda.EventCall.TheVariants as what
use Rattle.trace_runner.specs.declared.staff.Work.{Work}
use Rattle.trace_runner.specs.Agenda.{IsNext, IsTimed, NothingNext, NothingTimed, event_of_work, event_of_row, comes_by}
use Rattle.trace_runner.specs.Plan.{IsPlan}
use Rattle.trace_runner.specs.Simulation.{Keeps}
use Rattle.trace_runner.specs.Staff.{work_at, work_moment, work_rank, ComesBefore, IsFirstWork, IsFirstIdle, NoneWorks, NoneIdle, IsIdle, IsSmall}
use Rattle.fq_model.specs.Rules.{FitsTake}
use Rattle.fq_laws.proofs.History.Workers.{running_nothing}
use Rattle.std.proofs.lemmas.List.{get_or_past}
use Rattle.trace_runner.proofs.Coming.{keeps_submit}
use Rattle.trace_runner.proofs.Ending.{begins, first_agenda, ends, close_entry}
use Rattle.trace_runner.proofs.Events.{at_report, at_done, at_submit, at_take}
use Rattle.trace_runner.proofs.Finishing.{keeps_done}
use Rattle.trace_runner.proofs.InLimits.{in_limits}
use Rattle.trace_runner.proofs.Legal.{pool_same}
use Rattle.trace_runner.proofs.Only.{order}
use Rattle.trace_runner.proofs.Order.{timed_work, timed_row, all_later, none_later, read_same, take_next, no_take_next, due_next, one_work}
use Rattle.trace_runner.proofs.Reporting.{keeps_report}
use Rattle.trace_runner.proofs.Steps.{small_work, due_cases}
use Rattle.trace_runner.proofs.Taking.{keeps_take}

-- ---- the first of the works

comes_trans : (l m n : ℕ) (a b c : ℕ × ℕ) → ComesBefore l a m b → ComesBefore m b n c → ComesBefore l a n c
comes_trans l m n a b c (inl x) (inl y) = inl (omega arith)
comes_trans l m n a b c (inl x) (inr y) = inl (omega (arith, y.0))
comes_trans l m n a b c (inr x) (inl y) = inl (omega (arith, x.0))
comes_trans l m n a b c (inr x) (inr y) = inr (x.0 ∙ y.0, ranks a b c x.1 y.1)
  where
    ranks : (a b c : ℕ × ℕ) → Rattle.program_model.specs.Simulated.RankBefore a b → Rattle.program_model.specs.Simulated.RankBefore b c → Rattle.program_model.specs.Simulated.RankBefore a c
    ranks a b c p q = grind arith

-- of the workers below n, worker i comes first with w
record FirstBelow (works : List (Option Work)) (n i : ℕ) (w : Work) : Type 0 where
  below : i < n
  serves : work_at works i ≡ Some w
  first : (j : ℕ) (x : Work) → j < n → j ≢ i → work_at works j ≡ Some x → ComesBefore (work_moment w) (work_rank i w) (work_moment x) (work_rank j x)

abbrev NoneBelow : List (Option Work) → ℕ → Type 0
NoneBelow works n = (i : ℕ) → i < n → work_at works i ≡ None

abbrev Found : List (Option Work) → ℕ → Type 0
Found works n = NoneBelow works n ⊎ ((i : ℕ) × (w : Work) × FirstBelow works n i w)

none_more : (works : List (Option Work)) (n : ℕ) → NoneBelow works n → work_at works n ≡ None → NoneBelow works (suc n)
none_more works n h e = λ i l. elim (cases_eq i n) [ inl q ↦ ap (work_at works) q ∙ e | inr ne ↦ h i (omega (arith, ne)) ]

first_stays : (works : List (Option Work)) (n i : ℕ) (w : Work) → FirstBelow works n i w → ((x : Work) → work_at works n ≡ Some x → ComesBefore (work_moment w) (work_rank i w) (work_moment x) (work_rank n x)) → FirstBelow works (suc n) i w
first_stays works n i w f later = record {
  below = omega (arith, f.below);
  serves = f.serves;
  first = λ j x l ne e. elim (cases_eq j n) [
    | inl q ↦ subst (λ y. ComesBefore (work_moment w) (work_rank i w) (work_moment x) (work_rank y x)) (sym q) (later x (ap (work_at works) (sym q) ∙ e))
    | inr other ↦ f.first j x (omega (arith, other)) ne e
  ];
}

first_new : (works : List (Option Work)) (n : ℕ) (x : Work) → work_at works n ≡ Some x → ((j : ℕ) (y : Work) → j < n → work_at works j ≡ Some y → ComesBefore (work_moment x) (work_rank n x) (work_moment y) (work_rank j y)) → FirstBelow works (suc n) n x
first_new works n x e later = record {
  below = omega arith;
  serves = e;
  first = λ j y l ne is. later j y (omega (arith, ne)) is;
}

second : (i j : ℕ) (w x : Work) → work_rank i w ≡ work_rank j x → i ≡ j
second i j w x e = ap (λ (p : ℕ × ℕ). p.1) e

some_one : (w x : Work) → Some w ≡ Some x → w ≡ x
some_one w x e = cc

found : (works : List (Option Work)) (n : ℕ) → Found works n
found works zero = inl (λ i l. absurd (omega arith))
found works (suc n) = by_work (work_at works n) refl (found works n)
  where
    met : (i : ℕ) (w x : Work) → FirstBelow works n i w → work_at works n ≡ Some x → Found works (suc n)
    met i w x f e = elim (order (work_moment w) (work_moment x) (work_rank i w) (work_rank n x)) [
      | inl o ↦ elim o [
        | inl b ↦ inr (i, w, first_stays works n i w f (λ y is. subst (λ z. ComesBefore (work_moment w) (work_rank i w) (work_moment z) (work_rank n z)) (some_one x y (sym e ∙ is)) b))
        | inr b ↦ inr (
          n,
          x,
          first_new works n x e (λ j y l is. elim (cases_eq j i) [
            | inl q ↦ subst (λ z. ComesBefore (work_moment x) (work_rank n x) (work_moment y) (work_rank z y)) (sym q) (subst (λ z. ComesBefore (work_moment x) (work_rank n x) (work_moment z) (work_rank i z)) (one_work works i j w y f.serves is q) b)
            | inr ne ↦ comes_trans (work_moment x) (work_moment w) (work_moment y) (work_rank n x) (work_rank i w) (work_rank j y) b (f.first j y l ne is)
          ]),
        )
      ]
      | inr s ↦ absurd (omega (arith, second i n w x s.1, f.below))
    ]

    by_work : (o : Option Work) → work_at works n ≡ o → Found works n → Found works (suc n)
    by_work None e (inl none) = inl (none_more works n none e)
    by_work None e (inr f) = inr (f.0, f.1, first_stays works n f.0 f.1 f.2 (λ x is. absurd (let z : None ≡ Some x = sym e ∙ is in cc)))
    by_work (Some x) e (inl none) = inr (n, x, first_new works n x e (λ j y l is. absurd (let z : None ≡ Some y = sym (none j l) ∙ is in cc)))
    by_work (Some x) e (inr f) = met f.0 f.1 x f.2 e

-- the first work, if there is one
abbrev FirstWork : List (Option Work) → Type 0
FirstWork works = NoneWorks works ⊎ ((i : ℕ) × (w : Work) × IsFirstWork works i w)

first_work : (works : List (Option Work)) → ((i : ℕ) (w : Work) → work_at works i ≡ Some w → IsSmall w) → FirstWork works
first_work works small = elim (found works (length works)) [
  | inl none ↦ inl (λ i. elim (cases_lt i (length works)) [ inl l ↦ none i l | inr g ↦ get_or_past works i None g ])
  | inr f ↦ inr (
    f.0,
    f.1,
    record {
      serves = f.2.serves;
      small = small f.0 f.1 f.2.serves;
      first = λ j x ne e. elim (cases_lt j (length works)) [
        | inl l ↦ f.2.first j x l ne e
        | inr g ↦ absurd (let z : None ≡ Some x = sym (get_or_past works j None g) ∙ e in cc)
      ];
    },
  )
]

-- ---- the first idle worker

abbrev IdleBelow : List (Option Work) → ℕ → Type 0
IdleBelow works n = ((j : ℕ) → j < n → work_at works j ≡ None → ⊥) ⊎ ((i : ℕ) × (i < n) × (work_at works i ≡ None) × ((j : ℕ) → j < i → work_at works j ≡ None → ⊥))

idle_below : (works : List (Option Work)) (n : ℕ) → IdleBelow works n
idle_below works zero = inl (λ j l e. omega arith)
idle_below works (suc n) = by_work (work_at works n) refl (idle_below works n)
  where
    by_work : (o : Option Work) → work_at works n ≡ o → IdleBelow works n → IdleBelow works (suc n)
    by_work o e (inr f) = inr (f.0, omega (arith, f.1), f.2, f.3)
    by_work None e (inl none) = inr (n, omega arith, e, none)
    by_work (Some x) e (inl none) = inl (λ j l is. elim (cases_eq j n) [
      | inl q ↦ (let z : None ≡ Some x = sym is ∙ ap (work_at works) q ∙ e in cc)
      | inr ne ↦ none j (omega (arith, ne)) is
    ])

first_idle : (works : List (Option Work)) → NoneIdle works ⊎ ((i : ℕ) × IsFirstIdle works i)
first_idle works = elim (idle_below works (length works)) [
  | inl none ↦ inl (λ i d. none i d.known d.idle)
  | inr f ↦ inr (
    f.0,
    record {
      is_idle = record { known = f.1; idle = f.2 };
      least = λ j d. elim (cases_lt j f.0) [ inl l ↦ absurd (f.3 j l d.idle) | inr g ↦ g ];
    },
  )
]

-- ---- the next event

abbrev Next : (Agenda → List TraceRow → Type 0) → (Agenda → List TraceRow → Event → Type 0) → Agenda → List TraceRow → Type 0
Next Nothing Is a rows = (e : Option Event) × MatchOption e (Nothing a rows) (Is a rows)

next_timed : (a : Agenda) (rows : List TraceRow) → ((i : ℕ) (w : Work) → work_at a.staff i ≡ Some w → IsSmall w) → Next NothingTimed IsTimed a rows
next_timed a rows small = by_row (slice_get rows a.submitted) refl (first_work a.staff small)
  where
    by_order : (row : TraceRow) → slice_get rows a.submitted ≡ Some row → (i : ℕ) (w : Work) → IsFirstWork a.staff i w → Next NothingTimed IsTimed a rows
    by_order row e i w f = elim (cases_lt row.moment (work_moment w)) [
      | inl l ↦ (Some (event_of_row row), timed_row a rows row e (all_later a.staff i row.moment w f l))
      | inr g ↦ (Some (event_of_work i w), timed_work a rows i w f (λ other is. subst (λ (r : TraceRow). work_moment w ≤ r.moment) (read_same rows a.submitted row other e is) g))
    ]

    by_row : (o : Option TraceRow) → slice_get rows a.submitted ≡ o → FirstWork a.staff → Next NothingTimed IsTimed a rows
    by_row None e (inl none) = (None, record { works = none; requests = past_end e })
      where
        past_end : slice_get rows a.submitted ≡ None → length rows ≤ a.submitted
        past_end e = elim (cases_lt a.submitted (length rows)) [
          | inl l ↦ absurd (let d : TraceRow = record { moment = 0; submitter = 0; tenant = 0; kind = 0; declared = 0; cost = 0 } in let z : None ≡ Some (get_or rows a.submitted d) = sym e ∙ Rattle.std.proofs.lemmas.Option.slice_get-get_or rows a.submitted d l in cc)
          | inr g ↦ g
        ]
    by_row None e (inr f) = (Some (event_of_work f.0 f.1), timed_work a rows f.0 f.1 f.2 (λ row is. absurd (let z : None ≡ Some row = sym e ∙ is in cc)))
    by_row (Some row) e (inl none) = (Some (event_of_row row), timed_row a rows row e (none_later a.staff row.moment none))
    by_row (Some row) e (inr f) = by_order row e f.0 f.1 f.2

next_event : (a : Agenda) (rows : List TraceRow) → ((i : ℕ) (w : Work) → work_at a.staff i ≡ Some w → IsSmall w) → Next NothingNext IsNext a rows
next_event a rows small = by_timed (next_timed a rows small)
  where
    by_idle : (timed : Option Event) → MatchOption timed (NothingTimed a rows) (IsTimed a rows) → comes_by timed a.moment ≡ false → 1 ≤ a.waiting → (NoneIdle a.staff ⊎ ((i : ℕ) × IsFirstIdle a.staff i)) → Next NothingNext IsNext a rows
    by_idle timed t late some (inl none) = (timed, no_take_next a rows timed t (inr none))
    by_idle timed t late some (inr f) = (Some (record { moment = a.moment; what = what.Take f.0 }), take_next a rows f.0 timed t late some f.1)

    by_due : (timed : Option Event) → MatchOption timed (NothingTimed a rows) (IsTimed a rows) → (b : Bool) → comes_by timed a.moment ≡ b → Next NothingNext IsNext a rows
    by_due timed t true due = (timed, due_next a rows timed t due)
    by_due timed t false late = elim (cases_eq a.waiting 0) [
      | inl z ↦ (timed, no_take_next a rows timed t (inl z))
      | inr ne ↦ by_idle timed t late (omega (arith, ne)) (first_idle a.staff)
    ]

    by_timed : Next NothingTimed IsTimed a rows → Next NothingNext IsNext a rows
    by_timed n = by_due n.0 n.1 (comes_by n.0 a.moment) refl

-- ---- one entry more

record OneMore (T : Trace) (O : RunOptions) (P : History) : Type 0 where
  entry : Rattle.fq_model.specs.declared.event.Entry.Entry
  agenda : Agenda
  keeps : Keeps T O (entry ∷ P) agenda

take_fits : (T : Trace) (O : RunOptions) (P : History) (a : Agenda) (i : ℕ) → Keeps T O P a → IsIdle a.staff i → 1 ≤ waiting P → (r : ℕ) × (estimate : ℕ) × FitsTake (run_config T O) P (last_moment P) i r estimate
take_fits T O P a i k d some =
    let c = chosen_exists (run_config T O) P (last_moment P) i k.legal some in (
      c.0,
      c.1,
      record {
        worker_known = omega (arith, d.known, k.workers, pool_same (run_config T O) P k.unchanged);
        free = running_nothing (run_config T O) P i k.legal (k.idle i d.idle);
        asked = c.2;
        chosen = c.3;
      },
    )

one_more_event : (T : Trace) (O : RunOptions) (P : History) (a : Agenda) (m : ℕ) (w : EventCall) → IsPlan T O → Keeps T O P a → IsNext a T.rows (record { moment = m; what = w }) → OneMore T O P
one_more_event T O P a m (what.Report i w) p k n = record { entry = _; agenda = _; keeps = keeps_report T O P a i w (at_report T O P a m i w p k n) }
one_more_event T O P a m (what.Done i w) p k n = record { entry = _; agenda = _; keeps = keeps_done T O P a i w (at_done T O P a m i w p k n) }
one_more_event T O P a m (what.Submit row) p k n = record { entry = _; agenda = _; keeps = keeps_submit T O P a row (at_submit T O P a m row p k n) }
one_more_event T O P a m (what.Take i) p k n =
    let f = take_fits T O P a i k n.timed.may_come.0 (omega (arith, n.timed.may_come.2, k.waiting_is)) in
    record { entry = _; agenda = _; keeps = keeps_take T O P a i f.0 f.1 (at_take T O P a m i f.0 f.1 p k n f.2) }

smalls : (T : Trace) (O : RunOptions) (P : History) (a : Agenda) → IsPlan T O → Keeps T O P a → (i : ℕ) (w : Work) → work_at a.staff i ≡ Some w → IsSmall w
smalls T O P a p k i w e =
    let s = k.works i w e in
    small_work T O P a w p k s.in_time (elim (due_cases T O P i w s) [ inl d ↦ omega (arith, d.1) | inr d ↦ omega (arith, d.1) ])

abbrev pub Simulation : Trace → RunOptions → Type 0
Simulation T O = (H : History) × IsSimulated T O H

goes_on : (fuel : ℕ) (T : Trace) (O : RunOptions) (P : History) (a : Agenda) → IsPlan T O → Keeps T O P a → max 4 (needed_entries T.rows O.refresh) < length P + fuel → Simulation T O
goes_on zero T O P a p k b = absurd (omega (arith, length_entries (run_config T O) P (in_limits T O p) k.legal))
goes_on (suc fuel) T O P a p k b = by_next (next_event a T.rows (smalls T O P a p k)) (λ Q c q l. goes_on fuel T O Q c p q l)
  where
    by_next : Next NothingNext IsNext a T.rows → ((Q : History) (c : Agenda) → Keeps T O Q c → max 4 (needed_entries T.rows O.refresh) < length Q + fuel → Simulation T O) → Simulation T O
    by_next (None, n) rest = (close_entry P ∷ P, ends T O P a p k n)
    by_next (Some e, n) rest = let x = one_more_event T O P a e.moment e.what p k n in rest (x.entry ∷ P) x.agenda x.keeps (omega arith)

-- a plan has a simulated history
pub simulation_exists : (T : Trace) (O : RunOptions) → IsPlan T O → Simulation T O
simulation_exists T O p = goes_on (suc (max 4 (needed_entries T.rows O.refresh))) T O [] (first_agenda T O) p (begins T O) (omega arith)
