-- A trace has one simulated history.
use Rattle.std.proofs.Common.{ℕ, ◌<◌, ◌≤◌, ◌≡◌, ◌⊎◌, Bool, true, false, cond, List, [], ◌∷◌, length, reverse, Some, arith, refl, ap, sym, ◌∙◌, subst, inl, inr, ◌||◌, append-nil}
use Rattle.std.proofs.lemmas.Bool.{cases_lt, eq-eqb, false≢true, both_ways, or_left}
use Rattle.std.proofs.lemmas.List.{reverse-reverse}
use Rattle.fq_model.specs.declared.event.Act.{Act}
use Rattle.fq_model.specs.declared.event.Act.TheVariants.{Submit, Take, Report, Done, Close, Weight, Workers, Withdraw}
use Rattle.fq_model.specs.declared.event.Entry.{Entry}
use Rattle.program_model.specs.declared.trace.RunOptions.{RunOptions}
use Rattle.program_model.specs.declared.trace.TraceRow.{TraceRow}
use Rattle.program_model.specs.Courses.{worker_caller, course, serves}
use Rattle.fq_model.specs.History.{History, has_act, is_close, is_closed, is_change, is_submit, is_taken, is_done, is_done_of, is_waiting, submits, with_submit, waiting, Runs, request_bound}
use Rattle.fq_model.specs.Rules.{IsLegal, Fits, FitsTake}
use Rattle.program_model.specs.Simulated.{run_config, rank, RankBefore, IsServed, IsSimulated, IsSettled, ClosesLast}
use Rattle.fq_model.specs.Time.{last_moment}
use Rattle.program_model.specs.Trace.{Trace}
use Rattle.fq_laws.proofs.History.Asked.{waits_submitted, waits_untaken}
use Rattle.fq_laws.proofs.History.Requests.{submitted_below, taken_submitted, use_taken, done_taken}
use Rattle.fq_laws.proofs.History.Workers.{runs_running}
use Rattle.fq_laws.proofs.Rules.Answers.{chosen_request_one, chosen_estimate_one}
use Rattle.fq_laws.proofs.Rules.Takes.{take_waits}
use Rattle.fq_laws.proofs.Sums.{count_some}
use Rattle.trace_reader.specs.Rows.{row_at}
use Rattle.trace_runner.specs.Staff.{ComesBefore}
use Rattle.trace_runner.proofs.Ending.{close_entry}
use Rattle.trace_runner.proofs.Legal.{pool_same, untouched}
use Rattle.trace_runner.proofs.Rows.{row_there}
use Rattle.trace_runner.proofs.Rests.{Before, Here, agrees, all_submitted, below_rows, closed_tail, comes, ends_once, first_entry, first_of_all, first_onto, first_served, here, irrefl, kept, kept_first, kept_onto, legal_front, not_skipped, onto, onto_is, open_front, same_course, submits_onto}

-- ---- nothing is skipped

-- where a Take fits, time cannot go on
unsettled : (T : Trace) (O : RunOptions) (P : History) (m i r estimate : ℕ) → r < request_bound → i < O.workers → FitsTake (run_config T O) P m i r estimate → IsSettled O.workers P → ⊥
unfolding waiting
unsettled T O P m i r estimate b known f (inl z) = let c : 1 ≤ waiting P = count_some (is_waiting P) r request_bound b (take_waits (run_config T O) P m i r estimate f) in omega arith
unsettled T O P m i r estimate b known f (inr all) = let w = all i known in f.free w.0 w.1

bound_high : 262144 ≤ request_bound
unfolding request_bound
bound_high = omega arith

lower : (c i j : ℕ) → RankBefore (3, i) (c, j) → c ≤ 3 → (c ≡ 3) × (i < j)
lower c i j (inl l) h = absurd (omega arith)
lower c i j (inr s) h = (sym s.0, s.1)

low_rank : (c i j : ℕ) → RankBefore (3, i) (c, j) → c < 3 → ⊥
low_rank c i j (inl l) h = omega arith
low_rank c i j (inr s) h = omega (arith, s.0)

-- the next entry is not later in turn than a Take that fits
after_take : (T : Trace) (O : RunOptions) (P : History) (m i r estimate : ℕ) (f : Entry) → r < request_bound → i < O.workers → FitsTake (run_config T O) P m i r estimate → last_moment P ≤ m → Here T O P f → ComesBefore m (3, i) f.moment (rank f.act) → ⊥
after_take T O P m i r estimate f b known fit low h (inl l) = unsettled T O P m i r estimate b known fit (h.busy.settled (inl (omega arith)))
after_take T O P m i r estimate f b known fit low h (inr s) = by_act f.act refl h.busy.lower_run s.1
  where
    by_act : (a : Act) → f.act ≡ a → Rattle.program_model.specs.Simulated.TakesInTurn P a → RankBefore (3, i) (rank a) → ⊥
    by_act (Submit q t k d l) is run k2 = low_rank 2 i q k2 (omega arith)
    by_act (Take j q c) is run k2 = let w = run i (lower 3 i j k2 (omega arith)).1 in fit.free w.0 w.1
    by_act (Report w q u) is run k2 = low_rank 0 i w k2 (omega arith)
    by_act (Done w q c) is run k2 = low_rank 1 i w k2 (omega arith)
    by_act Close is run k2 = unsettled T O P m i r estimate b known fit (h.busy.settled (inr is))
    by_act (Weight t w) is run k2 = false≢true (sym (sym (ap is_change is) ∙ h.kept))
    by_act (Workers c) is run k2 = false≢true (sym (sym (ap is_change is) ∙ h.kept))
    by_act (Withdraw request) is run k2 = false≢true (sym (sym (ap is_change is) ∙ h.kept))

-- ---- the end

record Last (e : Entry) (es : List Entry) (P : History) : Type 0 where
  none : es ≡ []
  is : e ≡ close_entry P

ends_here : (e : Entry) (es : List Entry) (P : History) → e.act ≡ Close → ClosesLast (onto es (e ∷ P)) → Last e es P
unfolding onto is_closed
ends_here e [] P c d =
    let w : e ∷ P ≡ close_entry d.older ∷ d.older = d.last_is in
    let q : P ≡ d.older = cc in
    let h : e ≡ close_entry d.older = cc in
    record { none = refl; is = h ∙ ap close_entry (sym q) }
ends_here e (h ∷ hs) P c d = let t = closed_tail hs h (e ∷ P) (or_left _ _ (ap is_close c)) in absurd (ends_once _ t.0 t.1 t.2 t.3 d)

done_in_course : (P : History) (r : ℕ) → has_act (is_done_of r) (course P r) ≡ has_act (is_done_of r) P
done_in_course [] r = refl
done_in_course (e ∷ P) r = by_test (serves r e.act) refl (done_in_course P r)
  where
    done_serves : (a : Act) → serves r a ≡ false → is_done_of r a ≡ false
    done_serves (Done w q cost) h = h
    done_serves (Close) h = refl
    done_serves _ h = refl

    by_test : (b : Bool) → serves r e.act ≡ b → has_act (is_done_of r) (course P r) ≡ has_act (is_done_of r) P → has_act (is_done_of r) (cond b (e ∷ course P r) (course P r)) ≡ (is_done_of r e.act || has_act (is_done_of r) P)
    by_test true is ih = ap (λ b. is_done_of r e.act || b) ih
    by_test false is ih = ih ∙ sym (ap (λ b. b || has_act (is_done_of r) P) (done_serves e.act is))

pub served_done : (T : Trace) (refresh : ℕ) (H : History) (r : ℕ) (row : TraceRow) → IsServed T refresh H r row → is_done H r ≡ true
unfolding is_done
served_done T refresh H r row s = sym (done_in_course H r) ∙ ap (has_act (is_done_of r)) s.course_is ∙ or_left _ _ (eq-eqb r r refl)

-- a request that is done with the Close was done before it
pub done_before : (P : History) (r : ℕ) → is_done (close_entry P ∷ P) r ≡ true → is_done P r ≡ true
unfolding is_done
done_before P r h = h

-- where the Close comes, nothing else can
after_close : (T : Trace) (O : RunOptions) (e f : Entry) (es fs : List Entry) (P : History) → e.act ≡ Close → IsSimulated T O (onto (e ∷ es) P) → IsSimulated T O (onto (f ∷ fs) P) → f.act ≡ Close
unfolding onto
after_close T O e f es fs P ec s t = by_act f.act refl h.legal.3
  where
    last_e : Last e es P
    last_e = ends_here e es P ec s.closed

    whole : IsSimulated T O (close_entry P ∷ P)
    whole = subst (λ x. IsSimulated T O (x ∷ P)) last_e.is (subst (λ x. IsSimulated T O (onto x (e ∷ P))) last_e.none s)

    h : Here T O P f
    h = here T O f fs P t

    l : IsLegal (run_config T O) P
    l = h.legal.0

    all : submits P ≡ length T.rows
    all = omega (arith, all_submitted T O (close_entry P ∷ P) whole)

    done : (q : ℕ) → q < submits P → is_done P q ≡ true
    done q b = done_before P q (served_done T O.refresh (close_entry P ∷ P) q (row_at T.rows q) (whole.served q (row_at T.rows q) (row_there T.rows q (omega (arith, all)))))

    runs_not : (w q : ℕ) → Runs P w q → is_taken P q ≡ true → ⊥
    runs_not w q r k = both_ways _ r.not_done (done q (submitted_below (run_config T O) P q l (taken_submitted (run_config T O) P q l k)))

    by_act : (a : Act) → f.act ≡ a → Fits (run_config T O) P f.moment a → f.act ≡ Close
    by_act (Submit q t1 k d l1) is fit = absurd (omega (arith, fit.numbered, all, all_submitted T O (onto (f ∷ fs) P) t, submits_onto fs (f ∷ P), ap (λ a. with_submit a (submits P)) is))
    by_act (Take w q est) is fit =
        let wt = take_waits (run_config T O) P f.moment w q est fit in
        absurd (both_ways _ (waits_untaken P q wt) (done_taken (run_config T O) P q l (done q (submitted_below (run_config T O) P q l (waits_submitted P q wt)))))
    by_act (Report w q used) is fit = absurd (runs_not w q fit.0.runs (use_taken P w q used fit.0))
    by_act (Done w q cost) is fit = absurd (runs_not w q fit.runs (use_taken P w q cost fit))
    by_act Close is fit = is
    by_act (Weight t1 w) is fit = absurd (false≢true (sym (sym (ap is_change is) ∙ h.kept)))
    by_act (Workers c) is fit = absurd (false≢true (sym (sym (ap is_change is) ∙ h.kept)))
    by_act (Withdraw request) is fit = absurd (false≢true (sym (sym (ap is_change is) ∙ h.kept)))

-- ---- nothing is skipped

no_skip : (T : Trace) (O : RunOptions) (e f : Entry) (es fs : List Entry) (P : History) → length T.rows ≤ 262144 → IsSimulated T O (onto (e ∷ es) P) → IsSimulated T O (onto (f ∷ fs) P) → Before e f → ⊥
unfolding onto
no_skip T O e f es fs P few s t b = by_act e.act refl h.legal.3
  where
    h : Here T O P e
    h = here T O e es P s

    g : Here T O P f
    g = here T O f fs P t

    l : IsLegal (run_config T O) P
    l = h.legal.0

    by_served : (r : ℕ) → is_taken P r ≡ true → serves r e.act ≡ true → ⊥
    by_served r k v = not_skipped T O e f fs P t (comes (λ x. serves r x.act) e es (f ∷ fs) P (same_course T O (e ∷ es) (f ∷ fs) P r s t k) v) b

    by_act : (a : Act) → e.act ≡ a → Fits (run_config T O) P e.moment a → ⊥
    by_act (Submit r t1 k d l1) is fit = not_skipped T O e f fs P t (comes (λ x. is_submit x.act) e es (f ∷ fs) P (s.submitted ∙ sym t.submitted) (ap is_submit is)) b
    by_act (Take i r est) is fit =
        let wt = take_waits (run_config T O) P e.moment i r est fit in
        let low : r < length T.rows = below_rows T O (e ∷ es) P r s (submitted_below (run_config T O) P r l (waits_submitted P r wt)) in
        after_take T O P e.moment i r est f (omega (arith, bound_high)) (omega (arith, fit.worker_known, pool_same (run_config T O) P h.unchanged)) fit h.legal.1 g
        (subst (λ a. ComesBefore e.moment (rank a) f.moment (rank f.act)) is b)
    by_act (Report w r used) is fit = by_served r (use_taken P w r used fit.0) (ap (serves r) is ∙ eq-eqb r r refl)
    by_act (Done w r cost) is fit = by_served r (use_taken P w r cost fit) (ap (serves r) is ∙ eq-eqb r r refl)
    by_act Close is fit =
        let c = after_close T O e f es fs P is s t in
        irrefl e (subst (λ x. Before e x) ((ends_here f fs P c t.closed).is ∙ sym (ends_here e es P is s.closed).is) b)
    by_act (Weight t1 w) is fit = false≢true (sym (sym (ap is_change is) ∙ h.kept))
    by_act (Workers c) is fit = false≢true (sym (sym (ap is_change is) ∙ h.kept))
    by_act (Withdraw request) is fit = false≢true (sym (sym (ap is_change is) ∙ h.kept))

-- ---- the next entries agree

first_alone : (e : Entry) (es : List Entry) → first_of_all (onto (e ∷ es) []) ≡ Some e
unfolding onto first_of_all
first_alone e es = first_onto es e []

-- the caller of a Take
take_who : (T : Trace) (O : RunOptions) (e : Entry) (es : List Entry) (P : History) (i r est : ℕ) → e.act ≡ Take i r est → r < length T.rows → is_taken P r ≡ false → IsSimulated T O (onto (e ∷ es) P) → e.who ≡ worker_caller T.rows i
take_who T O e es P i r est is low un s =
    let l = legal_front (run_config T O) (e ∷ es) P s.legal in
    let test : Entry → Bool = λ x. serves r x.act in
    let v : test e ≡ true = ap (serves r) is ∙ eq-eqb r r refl in
    let c : course (onto (e ∷ es) P) r ≡ onto (e ∷ kept test es) [] = kept_onto test (e ∷ es) P ∙ ap (λ x. onto x (course P r)) (kept_first test e es v) ∙ ap (onto (e ∷ kept test es)) (untouched (run_config T O) P r l un) in
    let sv = s.served r (row_at T.rows r) (row_there T.rows r low) in
    let firsts : Some e ≡ Some (first_entry T r sv.worker sv.start sv.estimate) = sym (first_alone e (kept test es)) ∙ sym (ap first_of_all c) ∙ first_served T O.refresh (onto (e ∷ es) P) r (row_at T.rows r) sv in
    let both : e ≡ first_entry T r sv.worker sv.start sv.estimate = cc in
    let acts : Take i r est ≡ Take sv.worker r sv.estimate = sym is ∙ ap (λ (x : Entry). x.act) both in
    let w : i ≡ sv.worker = cc in
    ap (λ (x : Entry). x.who) both ∙ ap (worker_caller T.rows) (sym w)

same_entry : (e f : Entry) → e.who ≡ f.who → e.moment ≡ f.moment → e.act ≡ f.act → e ≡ f
same_entry e f a b c =
    ap (λ x. let r : Entry = record { who = x; moment = e.moment; act = e.act } in r) a ∙ ap (λ x. let r : Entry = record { who = f.who; moment = x; act = e.act } in r) b ∙ ap (λ x. let r : Entry = record { who = f.who; moment = f.moment; act = x } in r) c

class_of : (a b c d : ℕ) → ◌≡◌ {A = ℕ × ℕ} (a, b) (c, d) → a ≡ c
class_of a b c d e = ap (λ (p : ℕ × ℕ). p.0) e

number_of : (a b c d : ℕ) → ◌≡◌ {A = ℕ × ℕ} (a, b) (c, d) → b ≡ d
number_of a b c d e = ap (λ (p : ℕ × ℕ). p.1) e

take_one : (T : Trace) (O : RunOptions) (P : History) (m i r q a b : ℕ) → FitsTake (run_config T O) P m i r a → FitsTake (run_config T O) P m i q b → (r ≡ q) × (a ≡ b)
take_one T O P m i r q a b f g = (chosen_request_one (run_config T O) P m i r q a b f.asked g.asked f.chosen g.chosen, chosen_estimate_one (run_config T O) P m i r q a b f.asked g.asked f.chosen g.chosen)

submit_rank : (a : Act) (i : ℕ) → rank a ≡ (2, i) → is_submit a ≡ true
submit_rank (Submit q t k d l) i h = refl
submit_rank (Take w q e) i h = absurd (omega (arith, class_of 3 w 2 i h))
submit_rank (Report w q u) i h = absurd (omega (arith, class_of 0 w 2 i h))
submit_rank (Done w q c) i h = absurd (omega (arith, class_of 1 w 2 i h))
submit_rank Close i h = absurd (omega (arith, class_of 4 0 2 i h))
submit_rank (Weight t w) i h = absurd (omega (arith, class_of 4 0 2 i h))
submit_rank (Workers n) i h = absurd (omega (arith, class_of 4 0 2 i h))
submit_rank (Withdraw request) i h = absurd (omega (arith, class_of 4 0 2 i h))

take_rank : (a : Act) (i : ℕ) → rank a ≡ (3, i) → (r : ℕ) × (estimate : ℕ) × (a ≡ Take i r estimate)
take_rank (Submit q t k d l) i h = absurd (omega (arith, class_of 2 q 3 i h))
take_rank (Take w q e) i h = (q, e, ap (λ n. Take n q e) (number_of 3 w 3 i h))
take_rank (Report w q u) i h = absurd (omega (arith, class_of 0 w 3 i h))
take_rank (Done w q c) i h = absurd (omega (arith, class_of 1 w 3 i h))
take_rank Close i h = absurd (omega (arith, class_of 4 0 3 i h))
take_rank (Weight t w) i h = absurd (omega (arith, class_of 4 0 3 i h))
take_rank (Workers n) i h = absurd (omega (arith, class_of 4 0 3 i h))
take_rank (Withdraw request) i h = absurd (omega (arith, class_of 4 0 3 i h))

report_rank : (a : Act) (i : ℕ) → rank a ≡ (0, i) → (r : ℕ) × (used : ℕ) × (a ≡ Report i r used)
report_rank (Submit q t k d l) i h = absurd (omega (arith, class_of 2 q 0 i h))
report_rank (Take w q e) i h = absurd (omega (arith, class_of 3 w 0 i h))
report_rank (Report w q u) i h = (q, u, ap (λ n. Report n q u) (number_of 0 w 0 i h))
report_rank (Done w q c) i h = absurd (omega (arith, class_of 1 w 0 i h))
report_rank Close i h = absurd (omega (arith, class_of 4 0 0 i h))
report_rank (Weight t w) i h = absurd (omega (arith, class_of 4 0 0 i h))
report_rank (Workers n) i h = absurd (omega (arith, class_of 4 0 0 i h))
report_rank (Withdraw request) i h = absurd (omega (arith, class_of 4 0 0 i h))

done_rank : (a : Act) (i : ℕ) → rank a ≡ (1, i) → (r : ℕ) × (cost : ℕ) × (a ≡ Done i r cost)
done_rank (Submit q t k d l) i h = absurd (omega (arith, class_of 2 q 1 i h))
done_rank (Take w q e) i h = absurd (omega (arith, class_of 3 w 1 i h))
done_rank (Report w q u) i h = absurd (omega (arith, class_of 0 w 1 i h))
done_rank (Done w q c) i h = (q, c, ap (λ n. Done n q c) (number_of 1 w 1 i h))
done_rank Close i h = absurd (omega (arith, class_of 4 0 1 i h))
done_rank (Weight t w) i h = absurd (omega (arith, class_of 4 0 1 i h))
done_rank (Workers n) i h = absurd (omega (arith, class_of 4 0 1 i h))
done_rank (Withdraw request) i h = absurd (omega (arith, class_of 4 0 1 i h))

close_rank : (a : Act) → rank a ≡ (4, 0) → is_change a ≡ false → a ≡ Close
close_rank (Submit q t k d l) h c = absurd (omega (arith, class_of 2 q 4 0 h))
close_rank (Take w q e) h c = absurd (omega (arith, class_of 3 w 4 0 h))
close_rank (Report w q u) h c = absurd (omega (arith, class_of 0 w 4 0 h))
close_rank (Done w q k) h c = absurd (omega (arith, class_of 1 w 4 0 h))
close_rank Close h c = refl
close_rank (Weight t w) h c = absurd (false≢true (sym c))
close_rank (Workers n) h c = absurd (false≢true (sym c))
close_rank (Withdraw request) h c = absurd (false≢true (sym c))

agree : (T : Trace) (O : RunOptions) (e f : Entry) (es fs : List Entry) (P : History) → IsSimulated T O (onto (e ∷ es) P) → IsSimulated T O (onto (f ∷ fs) P) → e.moment ≡ f.moment → rank e.act ≡ rank f.act → e ≡ f
unfolding onto
agree T O e f es fs P s t m k = by_act e.act refl h.legal.3
  where
    h : Here T O P e
    h = here T O e es P s

    g : Here T O P f
    g = here T O f fs P t

    l : IsLegal (run_config T O) P
    l = h.legal.0

    running_same : (w r q : ℕ) → Runs P w r → Runs P w q → r ≡ q
    running_same w r q x y = let b : Some r ≡ Some q = sym (runs_running (run_config T O) P w r l x) ∙ runs_running (run_config T O) P w q l y in cc

    by_course : (r : ℕ) → is_taken P r ≡ true → serves r e.act ≡ true → serves r f.act ≡ true → e ≡ f
    by_course r c v u = agrees (λ x. serves r x.act) e f es fs P (same_course T O (e ∷ es) (f ∷ fs) P r s t c) v u

    by_act : (a : Act) → e.act ≡ a → Fits (run_config T O) P e.moment a → e ≡ f
    by_act (Submit r t1 k1 d l1) is fit = agrees (λ x. is_submit x.act) e f es fs P (s.submitted ∙ sym t.submitted) (ap is_submit is) (submit_rank f.act r (sym k ∙ ap rank is))
    by_act (Take i r est) is fit =
        let x = take_rank f.act i (sym k ∙ ap rank is) in
        let fit2 : FitsTake (run_config T O) P f.moment i x.0 x.1 = subst (Fits (run_config T O) P f.moment) x.2 g.legal.3 in
        let fit3 : FitsTake (run_config T O) P e.moment i x.0 x.1 = subst (λ n. FitsTake (run_config T O) P n i x.0 x.1) (sym m) fit2 in
        let one = take_one T O P e.moment i r x.0 est x.1 fit fit3 in
        let wt = take_waits (run_config T O) P e.moment i r est fit in
        let wq = take_waits (run_config T O) P e.moment i x.0 x.1 fit3 in
        let low : r < length T.rows = below_rows T O (e ∷ es) P r s (submitted_below (run_config T O) P r l (waits_submitted P r wt)) in
        let low2 : x.0 < length T.rows = below_rows T O (f ∷ fs) P x.0 t (submitted_below (run_config T O) P x.0 l (waits_submitted P x.0 wq)) in
        same_entry e f (take_who T O e es P i r est is low (waits_untaken P r wt) s ∙ sym (take_who T O f fs P i x.0 x.1 x.2 low2 (waits_untaken P x.0 wq) t)) m
        (is ∙ ap (λ q. Take i q est) one.0 ∙ ap (λ q. Take i x.0 q) one.1 ∙ sym x.2)
    by_act (Report w r used) is fit =
        let x = report_rank f.act w (sym k ∙ ap rank is) in
        let fit2 : Fits (run_config T O) P f.moment (Report w x.0 x.1) = subst (Fits (run_config T O) P f.moment) x.2 g.legal.3 in
        by_course r (use_taken P w r used fit.0) (ap (serves r) is ∙ eq-eqb r r refl) (ap (serves r) x.2 ∙ eq-eqb x.0 r (sym (running_same w r x.0 fit.0.runs fit2.0.runs)))
    by_act (Done w r cost) is fit =
        let x = done_rank f.act w (sym k ∙ ap rank is) in
        let fit2 : Fits (run_config T O) P f.moment (Done w x.0 x.1) = subst (Fits (run_config T O) P f.moment) x.2 g.legal.3 in
        by_course r (use_taken P w r cost fit) (ap (serves r) is ∙ eq-eqb r r refl) (ap (serves r) x.2 ∙ eq-eqb x.0 r (sym (running_same w r x.0 fit.runs fit2.runs)))
    by_act Close is fit =
        let c = close_rank f.act (sym k ∙ ap rank is) g.kept in
        (ends_here e es P is s.closed).is ∙ sym (ends_here f fs P c t.closed).is
    by_act (Weight t1 w) is fit = absurd (false≢true (sym (sym (ap is_change is) ∙ h.kept)))
    by_act (Workers c) is fit = absurd (false≢true (sym (sym (ap is_change is) ∙ h.kept)))
    by_act (Withdraw request) is fit = absurd (false≢true (sym (sym (ap is_change is) ∙ h.kept)))

-- ---- one simulated history

same_pair : (a b : ℕ × ℕ) → a.0 ≡ b.0 → a.1 ≡ b.1 → a ≡ b
same_pair a b x y = ap (λ n. let p : ℕ × ℕ = (n, a.1) in p) x ∙ ap (λ n. let p : ℕ × ℕ = (b.0, n) in p) y

pub order : (m n : ℕ) (a b : ℕ × ℕ) → (ComesBefore m a n b ⊎ ComesBefore n b m a) ⊎ ((m ≡ n) × (a ≡ b))
order m n a b = by_order (cases_lt m n) (cases_lt n m) (cases_lt a.0 b.0) (cases_lt b.0 a.0) (cases_lt a.1 b.1) (cases_lt b.1 a.1)
  where
    by_order : ((m < n) ⊎ (n ≤ m)) → ((n < m) ⊎ (m ≤ n)) → ((a.0 < b.0) ⊎ (b.0 ≤ a.0)) → ((b.0 < a.0) ⊎ (a.0 ≤ b.0)) → ((a.1 < b.1) ⊎ (b.1 ≤ a.1)) → ((b.1 < a.1) ⊎ (a.1 ≤ b.1)) → (ComesBefore m a n b ⊎ ComesBefore n b m a) ⊎ ((m ≡ n) × (a ≡ b))
    by_order (inl x) y c d u v = inl (inl (inl x))
    by_order (inr x) (inl y) c d u v = inl (inr (inl y))
    by_order (inr x) (inr y) (inl c) d u v = inl (inl (inr (omega arith, inl c)))
    by_order (inr x) (inr y) (inr c) (inl d) u v = inl (inr (inr (omega arith, inl d)))
    by_order (inr x) (inr y) (inr c) (inr d) (inl u) v = inl (inl (inr (omega arith, inr (omega arith, u))))
    by_order (inr x) (inr y) (inr c) (inr d) (inr u) (inl v) = inl (inr (inr (omega arith, inr (omega arith, v))))
    by_order (inr x) (inr y) (inr c) (inr d) (inr u) (inr v) = inr (omega arith, same_pair a b (omega arith) (omega arith))

one_next : (T : Trace) (O : RunOptions) (e f : Entry) (es fs : List Entry) (P : History) → length T.rows ≤ 262144 → IsSimulated T O (onto (e ∷ es) P) → IsSimulated T O (onto (f ∷ fs) P) → e ≡ f
one_next T O e f es fs P few s t = elim (order e.moment f.moment (rank e.act) (rank f.act)) [
  | inl x ↦ absurd (skip x)
  | inr k ↦ agree T O e f es fs P s t k.0 k.1
]
  where
    skip : (Before e f ⊎ Before f e) → ⊥
    skip (inl b) = no_skip T O e f es fs P few s t b
    skip (inr b) = no_skip T O f e fs es P few t s b

more : (T : Trace) (O : RunOptions) (P : History) (f : Entry) (fs : List Entry) → IsSimulated T O P → IsSimulated T O (onto fs (f ∷ P)) → ⊥
unfolding is_closed
more T O P f fs s t =
    let c : is_closed P ≡ true = subst (λ x. is_closed x ≡ true) (sym s.closed.last_is) refl in
    both_ways (is_closed P) (open_front fs f P t.closed) c

only : (T : Trace) (O : RunOptions) (es fs : List Entry) (P : History) → length T.rows ≤ 262144 → IsSimulated T O (onto es P) → IsSimulated T O (onto fs P) → onto es P ≡ onto fs P
unfolding onto
only T O [] [] P few s t = refl
only T O [] (f ∷ fs) P few s t = absurd (more T O P f fs s t)
only T O (e ∷ es) [] P few s t = absurd (more T O P e es t s)
only T O (e ∷ es) (f ∷ fs) P few s t =
    let same : e ≡ f = one_next T O e f es fs P few s t in
    only T O es fs (e ∷ P) few s (subst (λ x. IsSimulated T O (onto fs (x ∷ P))) (sym same) t) ∙ ap (λ x. onto fs (x ∷ P)) same

onto_reversed : (H : History) → onto (reverse H) [] ≡ H
onto_reversed H = onto_is (reverse H) [] ∙ append-nil (reverse (reverse H)) ∙ reverse-reverse H

-- the trace and the options fix the history
pub one_simulated : (T : Trace) (O : RunOptions) (H K : History) → length T.rows ≤ 262144 → IsSimulated T O H → IsSimulated T O K → H ≡ K
one_simulated T O H K few s t = sym (onto_reversed H) ∙ only T O (reverse H) (reverse K) [] few (subst (IsSimulated T O) (sym (onto_reversed H)) s) (subst (IsSimulated T O) (sym (onto_reversed K)) t) ∙ onto_reversed K
