-- The requests that workers run.
use Rattle.std.proofs.Common.{ℕ, ◌≡◌, true, ◌==◌, false, ◌&&◌, ◌||◌, inl, inr, [], ◌∷◌, Option, Some, None, Bool, cond, refl, sym, ◌∙◌, subst, ap, ◌<◌, arith}
use Rattle.std.proofs.lemmas.Bool.{eqb-true, or_cases, and_parts, both_ways, false≢true, eq-eqb, false_from_ne_true, or_left, or_right, and_from, ne_eqb, or_parts, or_from}
use Rattle.fq_model.specs.History.{History, is_take_by, has_act, is_taken, Runs, is_done, running_after, running_on}
use Rattle.fq_model.specs.declared.config.Config.{Config}
use Rattle.fq_model.specs.declared.event.Act.{Act}
use Rattle.fq_model.specs.declared.event.Act.TheVariants.{Take, Done}
use Rattle.fq_model.specs.Rules.{Fits, IsLegal, RunsNothing, FitsTake}
use Rattle.fq_laws.specs.Words.{one_more}
use Rattle.fq_laws.proofs.History.Requests.{worker_took, done_taken}
use Rattle.fq_laws.proofs.Rules.Takes.{take_waits}
use Rattle.fq_laws.proofs.History.Weights.{pool_high}
use Rattle.fq_laws.proofs.History.Asked.{waits_untaken}

-- a request that worker i has taken is taken
pub took : (P : History) (i r : ℕ) → has_act (is_take_by i r) P ≡ true → is_taken P r ≡ true
unfolding is_taken
took P i r h = worker_took i r P h

once_at : (C : Config) (P : History) (m i j r : ℕ) (a : Act) → Fits C P m a → (has_act (is_take_by i r) P ≡ true → has_act (is_take_by j r) P ≡ true → i ≡ j) → (is_take_by i r a || has_act (is_take_by i r) P) ≡ true → (is_take_by j r a || has_act (is_take_by j r) P) ≡ true → i ≡ j
once_at C P m i j r (Take worker request estimate) f ih x y = elim (or_cases ((worker == i) && (request == r)) (has_act (is_take_by i r) P) x) [
  | inl p ↦ elim (or_cases ((worker == j) && (request == r)) (has_act (is_take_by j r) P) y) [
    | inl q ↦ (let u : worker ≡ i = eqb-true worker i (and_parts (worker == i) (request == r) p).0 in let v : worker ≡ j = eqb-true worker j (and_parts (worker == j) (request == r) q).0 in cc)
    | inr q ↦ absurd (old j i p q)
  ]
  | inr p ↦ elim (or_cases ((worker == j) && (request == r)) (has_act (is_take_by j r) P) y) [ inl q ↦ absurd (old i j q p) | inr q ↦ ih p q ]
]
  where
    old : (k l : ℕ) → ((worker == l) && (request == r)) ≡ true → has_act (is_take_by k r) P ≡ true → ⊥
    old k l p q =
        let e : request ≡ r = eqb-true request r (and_parts (worker == l) (request == r) p).1 in
        let un : is_taken P request ≡ false = waits_untaken P request (take_waits C P m worker request estimate f) in
        let un2 : is_taken P r ≡ false = rw e at un in
        both_ways (is_taken P r) un2 (took P k r q)
once_at C P m i j r _ f ih x y = ih x y

-- two workers do not take one request
pub take_once : (C : Config) (P : History) (i j r : ℕ) → IsLegal C P → has_act (is_take_by i r) P ≡ true → has_act (is_take_by j r) P ≡ true → i ≡ j
take_once C [] i j r l x y = absurd (false≢true x)
take_once C (e ∷ P) i j r l x y = once_at C P e.moment i j r e.act l.3 (take_once C P i j r l.0) x y

-- worker i runs this request and no other, or nothing where there is none
abbrev pub IsRunningOn : History → ℕ → Option ℕ → Type 0
IsRunningOn P i None = RunsNothing P i
IsRunningOn P i (Some r) = Runs P i r × ((s : ℕ) → Runs P i s → s ≡ r)

-- where worker i runs the same requests in P and Q, `IsRunningOn` holds of Q too
same_runs : (P Q : History) (i : ℕ) (o : Option ℕ) → ((s : ℕ) → Runs P i s → Runs Q i s) → ((s : ℕ) → Runs Q i s → Runs P i s) → IsRunningOn P i o → IsRunningOn Q i o
same_runs P Q i None to from h = λ r w. h r (from r w)
same_runs P Q i (Some r) to from h = (to r h.0, λ s w. h.1 s (from s w))

runs_take : (C : Config) (P : History) (who m i worker request estimate : ℕ) (b : Bool) (o : Option ℕ) → (worker == i) ≡ b → IsLegal C P → FitsTake C P m worker request estimate → IsRunningOn P i o → IsRunningOn (one_more who m (Take worker request estimate) P) i (cond b (Some request) o)
unfolding is_done
runs_take C P who m i worker request estimate true o e l f h =
    let same : worker ≡ i = eqb-true _ _ e in
    let un : is_taken P request ≡ false = waits_untaken P request (take_waits C P m worker request estimate f) in
    let undone : is_done P request ≡ false = false_from_ne_true _ (λ d. both_ways _ un (done_taken C P request l d)) in (
      record { taken = or_left _ _ (and_from _ _ e (eq-eqb request request refl)); not_done = undone },
      λ s w. elim (or_cases ((worker == i) && (request == s)) (has_act (is_take_by i s) P) w.taken) [
        | inl x ↦ sym (eqb-true request s (and_parts (worker == i) (request == s) x).1)
        | inr x ↦ absurd (f.free s (rw same (record { taken = x; not_done = w.not_done })))
      ],
    )
runs_take C P who m i worker request estimate false o e l f h = same_runs P (one_more who m (Take worker request estimate) P) i o
    (λ s w. record { taken = or_right ((worker == i) && (request == s)) (has_act (is_take_by i s) P) w.taken; not_done = w.not_done })
    (λ s w. elim (or_cases ((worker == i) && (request == s)) (has_act (is_take_by i s) P) w.taken) [
      | inl x ↦ absurd (both_ways (worker == i) e (and_parts (worker == i) (request == s) x).0)
      | inr x ↦ record { taken = x; not_done = w.not_done }
    ]) h

runs_done : (C : Config) (P : History) (who m i worker request cost : ℕ) (b : Bool) (o : Option ℕ) → (worker == i) ≡ b → IsLegal C P → Runs P worker request → IsRunningOn P i o → IsRunningOn (one_more who m (Done worker request cost) P) i (cond b None o)
unfolding is_done
runs_done C P who m i worker request cost true None e l f h = absurd (h request (rw (← eqb-true worker i e) f))
runs_done C P who m i worker request cost true (Some r) e l f h = λ s w.
    let p = or_parts (request == s) (is_done P s) w.not_done in
    let one : request ≡ r = h.1 request (rw (← eqb-true worker i e) f) in
    let two : s ≡ r = h.1 s (record { taken = w.taken; not_done = p.1 }) in
    both_ways (request == s) p.0 (eq-eqb request s (one ∙ sym two))
runs_done C P who m i worker request cost false o e l f h = same_runs P (one_more who m (Done worker request cost) P) i o
    (λ s w.
    let off : (request == s) ≡ false = ne_eqb request s (λ q. let t : worker ≡ i = take_once C P worker i s l (rw q at f.taken) w.taken in both_ways (worker == i) e (eq-eqb worker i t)) in
    record { taken = w.taken; not_done = or_from (request == s) (is_done P s) off w.not_done })
    (λ s w. record { taken = w.taken; not_done = (or_parts (request == s) (is_done P s) w.not_done).1 }) h

runs_at : (C : Config) (P : History) (who m i : ℕ) (a : Act) → IsLegal C P → Fits C P m a → IsRunningOn P i (running_on P i) → IsRunningOn (one_more who m a P) i (running_after i a (running_on P i))
unfolding is_done
runs_at C P who m i (Take worker request estimate) l f h = runs_take C P who m i worker request estimate (worker == i) (running_on P i) refl l f h
runs_at C P who m i (Done worker request cost) l f h = runs_done C P who m i worker request cost (worker == i) (running_on P i) refl l f.runs h
runs_at C P who m i a l f h = same_runs P (one_more who m a P) i (running_on P i) (λ s w. record { taken = w.taken; not_done = w.not_done }) (λ s w. record { taken = w.taken; not_done = w.not_done }) h

-- `running_on` is the request that the worker runs
pub running_is : (C : Config) (P : History) (i : ℕ) → IsLegal C P → IsRunningOn P i (running_on P i)
running_is C [] i l = λ r w. false≢true w.taken
running_is C (e ∷ P) i l = runs_at C P e.who e.moment i e.act l.0 l.3 (running_is C P i l.0)

pub running_runs : (C : Config) (P : History) (i r : ℕ) → IsLegal C P → running_on P i ≡ Some r → Runs P i r
running_runs C P i r l e = let h : IsRunningOn P i (Some r) = subst (IsRunningOn P i) e (running_is C P i l) in h.0

pub running_nothing : (C : Config) (P : History) (i : ℕ) → IsLegal C P → running_on P i ≡ None → RunsNothing P i
running_nothing C P i l e = subst (IsRunningOn P i) e (running_is C P i l)

pub runs_running : (C : Config) (P : History) (i r : ℕ) → IsLegal C P → Runs P i r → running_on P i ≡ Some r
runs_running C P i r l w = go (running_on P i) refl
  where
    go : (o : Option ℕ) → running_on P i ≡ o → running_on P i ≡ Some r
    go None is = absurd (running_nothing C P i l is r w)
    go (Some s) is = let h : IsRunningOn P i (Some s) = subst (IsRunningOn P i) is (running_is C P i l) in is ∙ ap Some (sym (h.1 r w))

pub nothing_running : (C : Config) (P : History) (i : ℕ) → IsLegal C P → RunsNothing P i → running_on P i ≡ None
nothing_running C P i l h = go (running_on P i) refl
  where
    go : (o : Option ℕ) → running_on P i ≡ o → running_on P i ≡ None
    go None is = is
    go (Some r) is = absurd (h r (running_runs C P i r l is))

-- a request runs on one worker at most
pub runs_on_one : (C : Config) (P : History) (i j r : ℕ) → IsLegal C P → Runs P i r → Runs P j r → i ≡ j
runs_on_one C P i j r l v w = take_once C P i j r l v.taken w.taken

worker_at : (C : Config) (P : History) (m i r : ℕ) (a : Act) → IsLegal C P → Fits C P m a → is_take_by i r a ≡ true → i < C.workers
worker_at C P m i r (Take worker request estimate) l f h =
    subst (λ w. w < C.workers) (eqb-true worker i (and_parts (worker == i) (request == r) h).0) (omega (arith, f.worker_known, pool_high C P l))
worker_at C P m i r _ l f h = absurd (false≢true h)

taker_known : (C : Config) (P : History) (i r : ℕ) → IsLegal C P → has_act (is_take_by i r) P ≡ true → i < C.workers
taker_known C [] i r l h = absurd (false≢true h)
taker_known C (e ∷ P) i r l h = elim (or_cases (is_take_by i r e.act) (has_act (is_take_by i r) P) h) [
  | inl x ↦ worker_at C P e.moment i r e.act l.0 l.3 x
  | inr x ↦ taker_known C P i r l.0 x
]

-- a worker that runs a request is one of those that there may be
pub runs_worker_known : (C : Config) (P : History) (i r : ℕ) → IsLegal C P → Runs P i r → i < C.workers
runs_worker_known C P i r l h = taker_known C P i r l h.taken
