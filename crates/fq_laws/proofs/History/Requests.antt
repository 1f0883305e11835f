-- Properties of the requests of legal histories.
use Rattle.std.proofs.Common.{ℕ, ◌<◌, ◌≡◌, true, ◌||◌, arith, inl, inr, [], ◌∷◌, subst, false, refl, Some, ◌≤◌, length, Option, None, sym, ◌∙◌}
use Rattle.std.proofs.lemmas.Bool.{eqb-true, or_cases, false≢true, or_right, and_parts, not_from_false, and_from, false_from_ne_true, both_ways, cases_eq, eq-eqb, ne_eqb, or_from}
use Rattle.fq_model.specs.declared.config.Config.{Config}
use Rattle.fq_model.specs.declared.event.Act.{Act}
use Rattle.fq_model.specs.declared.event.Act.TheVariants.{Submit, Take, Done, Withdraw}
use Rattle.fq_model.specs.History.{History, is_submit_of, is_submitted, submits, with_submit, is_take_of, is_taken, is_take_by, is_removal_of, is_removed, is_withdraw_of, is_withdrawn, is_ended, is_waiting, has_act, is_running, Runs, is_done_of, is_done, Request, request_at, request_in, is_of_tenant}
use Rattle.fq_model.specs.Rules.{Fits, IsLegal, FitsUse}
use Rattle.fq_model.specs.declared.event.Entry.{Entry}
use Rattle.vt_fixed.specs.declared.limits.TheConstants.{GREATEST_COST}
use Rattle.fq_laws.proofs.History.Asked.{has_weaker, waits_submitted, waits_unremoved, waits_untaken, submitted_known, asked_submitted, taken_removed, withdrawn_removed, ended_by}
use Rattle.fq_laws.proofs.Rules.Takes.{take_waits}

-- a submitted request has a number below the count of Submits, at one entry more
submitted_at : (C : Config) (P : History) (m r : ℕ) (a : Act) → Fits C P m a → (is_submitted P r ≡ true → r < submits P) → (is_submit_of r a || is_submitted P r) ≡ true → r < with_submit a (submits P)
submitted_at C P m r (Submit request tenant kind declared label) f ih h = elim (or_cases _ _ h) [
  | inl e ↦ let n : request ≡ r = eqb-true _ _ e in omega (arith, f.numbered)
  | inr e ↦ omega (arith, ih e)
]
submitted_at C P m r _ f ih h = omega (arith, ih h)

pub submitted_below : (C : Config) (P : History) (r : ℕ) → IsLegal C P → is_submitted P r ≡ true → r < submits P
unfolding is_submitted
submitted_below C [] r l h = absurd (false≢true h)
submitted_below C (e ∷ P) r l h = submitted_at C P e.moment r e.act l.3 (submitted_below C P r l.0) h

-- a request that is taken or withdrawn was submitted
removed_at : (C : Config) (P : History) (m r : ℕ) (a : Act) → Fits C P m a → (is_removed P r ≡ true → is_submitted P r ≡ true) → (is_removal_of r a || is_removed P r) ≡ true → (is_submit_of r a || is_submitted P r) ≡ true
removed_at C P m r (Submit request tenant kind declared label) f ih h = or_right _ _ (ih h)
removed_at C P m r (Take worker request estimate) f ih h = elim (or_cases _ _ h) [
  | inl e ↦ subst (λ s. is_submitted P s ≡ true) (eqb-true _ _ e) (waits_submitted P request (take_waits C P m worker request estimate f))
  | inr e ↦ ih e
]
removed_at C P m r (Withdraw request) f ih h = elim (or_cases _ _ h) [
  | inl e ↦ subst (λ s. is_submitted P s ≡ true) (eqb-true _ _ e) (waits_submitted P request f)
  | inr e ↦ ih e
]
removed_at C P m r _ f ih h = ih h

pub removed_submitted : (C : Config) (P : History) (r : ℕ) → IsLegal C P → is_removed P r ≡ true → is_submitted P r ≡ true
unfolding is_removed is_submitted
removed_submitted C [] r l h = absurd (false≢true h)
removed_submitted C (e ∷ P) r l h = removed_at C P e.moment r e.act l.3 (removed_submitted C P r l.0) h

pub taken_submitted : (C : Config) (P : History) (r : ℕ) → IsLegal C P → is_taken P r ≡ true → is_submitted P r ≡ true
taken_submitted C P r l h = removed_submitted C P r l (taken_removed P r h)

-- a Take by worker i is a Take
taken_by_at : (i r : ℕ) (a : Act) → is_take_by i r a ≡ true → is_take_of r a ≡ true
taken_by_at i r (Take worker request estimate) h = (and_parts _ _ h).1
taken_by_at i r _ h = h

pub worker_took : (i r : ℕ) (P : History) → has_act (is_take_by i r) P ≡ true → has_act (is_take_of r) P ≡ true
worker_took i r P h = has_weaker (is_take_by i r) (is_take_of r) (taken_by_at i r) P h

pub worker_runs : (P : History) (i r : ℕ) → Runs P i r → is_running P r ≡ true
unfolding is_running is_taken
worker_runs P i r w = and_from _ _ (worker_took i r P w.taken) (not_from_false _ w.not_done)

pub runs_taken : (P : History) (r : ℕ) → is_running P r ≡ true → is_taken P r ≡ true
unfolding is_running
runs_taken P r h = (and_parts _ _ h).0

-- a request that is done was taken
done_at : (C : Config) (P : History) (m r : ℕ) (a : Act) → Fits C P m a → (is_done P r ≡ true → is_taken P r ≡ true) → (is_done_of r a || is_done P r) ≡ true → (is_take_of r a || is_taken P r) ≡ true
done_at C P m r (Take worker request estimate) f ih h = or_right _ _ (ih h)
done_at C P m r (Done worker request cost) f ih h = elim (or_cases _ _ h) [
  | inl e ↦ subst (λ s. is_taken P s ≡ true) (eqb-true _ _ e) (runs_taken P request (worker_runs P worker request f.runs))
  | inr e ↦ ih e
]
done_at C P m r _ f ih h = ih h

pub done_taken : (C : Config) (P : History) (r : ℕ) → IsLegal C P → is_done P r ≡ true → is_taken P r ≡ true
unfolding is_taken is_done
done_taken C [] r l h = absurd (false≢true h)
done_taken C (e ∷ P) r l h = done_at C P e.moment r e.act l.3 (done_taken C P r l.0) h

-- nothing is taken at first
pub untaken_nil : (r : ℕ) → is_taken [] r ≡ false
unfolding is_taken
untaken_nil r = refl

-- a request that is not taken is not done
pub untaken_undone : (C : Config) (P : History) (q : ℕ) → IsLegal C P → is_taken P q ≡ false → is_done P q ≡ false
untaken_undone C P q l h = false_from_ne_true _ (λ d. both_ways _ h (done_taken C P q l d))

-- ---- withdrawn requests

-- a withdrawn request is never taken
unmixed_at : (C : Config) (P : History) (m r : ℕ) (a : Act) → Fits C P m a → (is_withdrawn P r ≡ true → is_taken P r ≡ false) → (is_withdraw_of r a || is_withdrawn P r) ≡ true → (is_take_of r a || is_taken P r) ≡ false
unmixed_at C P m r (Take worker request estimate) f ih h =
    let there : is_removed P request ≡ false = waits_unremoved P request (take_waits C P m worker request estimate f) in
    or_from _ _ (ne_eqb request r (λ e. both_ways _ (rw e at there) (withdrawn_removed P r h))) (ih h)
unmixed_at C P m r (Withdraw request) f ih h = elim (or_cases _ _ h) [
  | inl e ↦ subst (λ s. is_taken P s ≡ false) (eqb-true _ _ e) (waits_untaken P request f)
  | inr e ↦ ih e
]
unmixed_at C P m r _ f ih h = ih h

pub withdrawn_untaken : (C : Config) (P : History) (r : ℕ) → IsLegal C P → is_withdrawn P r ≡ true → is_taken P r ≡ false
unfolding is_withdrawn is_taken
withdrawn_untaken C [] r l h = absurd (false≢true h)
withdrawn_untaken C (e ∷ P) r l h = unmixed_at C P e.moment r e.act l.3 (withdrawn_untaken C P r l.0) h

-- an ended request was taken or withdrawn
pub ended_removed : (C : Config) (P : History) (r : ℕ) → IsLegal C P → is_ended P r ≡ true → is_removed P r ≡ true
ended_removed C P r l h = elim (ended_by P r h) [
  | inl d ↦ taken_removed P r (done_taken C P r l d)
  | inr w ↦ withdrawn_removed P r w
]

-- so a waiting request is not ended
pub waits_unended : (C : Config) (P : History) (r : ℕ) → IsLegal C P → is_waiting P r ≡ true → is_ended P r ≡ false
waits_unended C P r l w = false_from_ne_true _ (λ h. both_ways _ (waits_unremoved P r w) (ended_removed C P r l h))

-- nor is a running request
pub taken_unended : (C : Config) (P : History) (r : ℕ) → IsLegal C P → is_taken P r ≡ true → is_done P r ≡ false → is_ended P r ≡ false
taken_unended C P r l t d = false_from_ne_true _ (λ h. elim (ended_by P r h) [
  | inl k ↦ both_ways _ d k
  | inr w ↦ both_ways _ (withdrawn_untaken C P r l w) t
])

-- ---- the request that a worker may report of and finish

-- a use that fits is of a request that is taken
pub use_taken : (P : History) (w q used : ℕ) → FitsUse P w q used → is_taken P q ≡ true
use_taken P w q used f = runs_taken P q (worker_runs P w q f.runs)

-- and not done
pub use_undone : (P : History) (w q used : ℕ) → FitsUse P w q used → is_done P q ≡ false
use_undone P w q used f = f.runs.not_done

pub use_unended : (C : Config) (P : History) (w q used : ℕ) → IsLegal C P → FitsUse P w q used → is_ended P q ≡ false
use_unended C P w q used l f = taken_unended C P q l (use_taken P w q used f) (use_undone P w q used f)

pub taken_known : (C : Config) (P : History) (q : ℕ) → IsLegal C P → is_taken P q ≡ true → (a : Request) × (request_at P q ≡ Some a)
taken_known C P q l h = submitted_known P q (taken_submitted C P q l h)

pub use_known : (C : Config) (P : History) (w q used : ℕ) → IsLegal C P → FitsUse P w q used → (a : Request) × (request_at P q ≡ Some a)
use_known C P w q used l f = taken_known C P q l (use_taken P w q used f)

-- ---- the limits of a request

-- its tenant and its kind are there, and its declared cost is in range
pub record IsKnown (C : Config) (a : Request) : Type 0 where
  pub tenant_known : a.tenant < length C.weights
  pub kind_known : a.kind < C.kinds
  pub declared_low : 1 ≤ a.declared
  pub declared_high : a.declared ≤ GREATEST_COST

known_at : (C : Config) (P : History) (m r : ℕ) (act : Act) (a : Request) → Fits C P m act → (request_at P r ≡ Some a → IsKnown C a) → request_in r act (request_at P r) ≡ Some a → IsKnown C a
known_at C P m r (Submit request tenant kind declared label) a f ih h = elim (cases_eq request r) [
  | inl e ↦ (let k : Some (record { tenant = tenant; kind = kind; declared = declared; label = label }) ≡ Some a = rw (eq-eqb request r e) at h in let j : record { tenant = tenant; kind = kind; declared = declared; label = label } ≡ a = cc in subst (IsKnown C) j (record { tenant_known = f.tenant_known; kind_known = f.kind_known; declared_low = f.declared_low; declared_high = f.declared_high }))
  | inr ne ↦ ih (rw (ne_eqb request r ne) at h)
]
known_at C P m r _ a f ih h = ih h

pub request_known : (C : Config) (P : History) (r : ℕ) (a : Request) → IsLegal C P → request_at P r ≡ Some a → IsKnown C a
request_known C [] r a l h = absurd (cc)
request_known C (e ∷ P) r a l h = known_at C P e.moment r e.act a l.3 (request_known C P r a l.0) h

-- the tenant of a request is there
pub tenant_below : (C : Config) (P : History) (t r : ℕ) → IsLegal C P → is_of_tenant t (request_at P r) ≡ true → t < length C.weights
tenant_below C P t r l h = go (request_at P r) refl h
  where
    go : (o : Option Request) → request_at P r ≡ o → is_of_tenant t o ≡ true → t < length C.weights
    go None is k = absurd (false≢true k)
    go (Some a) is k = let e : a.tenant ≡ t = eqb-true _ _ k in let b : a.tenant < length C.weights = (request_known C P r a l is).tenant_known in omega arith

-- ---- requests that are not submitted yet

pub fresh : (C : Config) (P : History) (r : ℕ) → IsLegal C P → submits P ≤ r → request_at P r ≡ None
fresh C P r l n = go (request_at P r) refl
  where
    go : (o : Option Request) → request_at P r ≡ o → request_at P r ≡ None
    go None is = is
    go (Some q) is = let b : r < submits P = submitted_below C P r l (asked_submitted P r q is) in absurd (omega arith)

pub fresh_unsubmitted : (C : Config) (P : History) (r : ℕ) → IsLegal C P → submits P ≤ r → is_submitted P r ≡ false
fresh_unsubmitted C P r l n = false_from_ne_true _ (λ h. let b : r < submits P = submitted_below C P r l h in omega arith)

pub fresh_unremoved : (C : Config) (P : History) (r : ℕ) → IsLegal C P → submits P ≤ r → is_removed P r ≡ false
fresh_unremoved C P r l n = false_from_ne_true _ (λ h. let b : r < submits P = submitted_below C P r l (removed_submitted C P r l h) in omega arith)

pub fresh_unended : (C : Config) (P : History) (r : ℕ) → IsLegal C P → submits P ≤ r → is_ended P r ≡ false
fresh_unended C P r l n = false_from_ne_true _ (λ h. both_ways _ (fresh_unremoved C P r l n) (ended_removed C P r l h))

pub fresh_untaken : (C : Config) (P : History) (r : ℕ) → IsLegal C P → submits P ≤ r → is_taken P r ≡ false
fresh_untaken C P r l n = false_from_ne_true _ (λ h. let b : r < submits P = submitted_below C P r l (taken_submitted C P r l h) in omega arith)

pub fresh_undone : (C : Config) (P : History) (r : ℕ) → IsLegal C P → submits P ≤ r → is_done P r ≡ false
fresh_undone C P r l n = false_from_ne_true _ (λ h. let b : r < submits P = submitted_below C P r l (taken_submitted C P r l (done_taken C P r l h)) in omega arith)

-- ---- the fields of a request

stays_at : (C : Config) (P : History) (m r : ℕ) (a : Act) (q : Request) → IsLegal C P → Fits C P m a → request_at P r ≡ Some q → request_in r a (request_at P r) ≡ Some q
stays_at C P m r (Submit request tenant kind declared label) q l f h = elim (cases_eq request r) [
  | inl e ↦ (let k : request_at P r ≡ None = fresh C P r l (omega (arith, f.numbered)) in let j : Some q ≡ None = sym h ∙ k in absurd (cc))
  | inr ne ↦ rw (ne_eqb request r ne) h
]
stays_at C P m r _ q l f h = h

-- the fields of a request do not change
pub asked_stays : (C : Config) (P : History) (e : Entry) (r : ℕ) (q : Request) → IsLegal C (e ∷ P) → request_at P r ≡ Some q → request_at (e ∷ P) r ≡ Some q
asked_stays C P e r q l h = stays_at C P e.moment r e.act q l.0 l.3 h
