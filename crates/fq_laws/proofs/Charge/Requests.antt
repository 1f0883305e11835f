-- How the charge of a request changes at one entry more.
use Rattle.std.proofs.Common.{ℕ, ◌≡◌, max, arith, ◌==◌, true, ◌||◌, refl, inl, inr, Some, ◌≢◌, [], ◌∷◌, false, None, ◌≤◌, cond, subst}
use Rattle.std.proofs.lemmas.Bool.{cases_Bool, false≢true, or_parts, ne_eqb, both_ways, eq-eqb, cases_eq, true_from_ne_false}
use Rattle.fq_model.specs.declared.event.Act.{Act}
use Rattle.fq_model.specs.declared.event.Act.TheVariants.{Take, Done, Report, Submit, Withdraw}
use Rattle.fq_model.specs.History.{History, is_taken, is_take_of, is_done, is_done_of, last_use, use_in, weight_at}
use Rattle.fq_model.specs.Charge.{taken_estimate, estimate_in, final_cost, cost_in, charge, taken_weight}
use Rattle.fq_model.specs.declared.config.Config.{Config}
use Rattle.fq_model.specs.Rules.{Fits, IsLegal, FitsUse}
use Rattle.fq_model.specs.declared.event.Entry.{Entry}
use Rattle.fq_laws.specs.Words.{one_more, is_quiet}
use Rattle.fq_laws.specs.Changes.{charge_after}
use Rattle.fq_laws.proofs.History.Requests.{use_taken, untaken_undone, use_undone, done_taken}
use Rattle.fq_laws.proofs.Rules.Takes.{take_waits}
use Rattle.fq_laws.proofs.History.Asked.{waits_untaken}

-- ---- the estimate, the cost and the greatest use, as far as they are there

zero_max : (x : ℕ) → max 0 x ≡ x
zero_max x = omega arith

estimate_some_at : (r : ℕ) (a : Act) (P : History) → (is_taken P r ≡ true → (x : ℕ) × (taken_estimate P r ≡ Some x)) → (is_take_of r a || is_taken P r) ≡ true → (x : ℕ) × (estimate_in r a (taken_estimate P r) ≡ Some x)
estimate_some_at r (Take worker request estimate) P ih h = elim (cases_Bool (request == r)) [ inl e ↦ (estimate, rw e refl) | inr e ↦ rw e (ih (rw e at h)) ]
estimate_some_at r _ P ih h = ih h

-- a taken request has the estimate of its Take
pub estimate_some : (P : History) (r : ℕ) → is_taken P r ≡ true → (x : ℕ) × (taken_estimate P r ≡ Some x)
unfolding is_taken
estimate_some [] r h = absurd (false≢true h)
estimate_some (e ∷ P) r h = estimate_some_at r e.act P (estimate_some P r) h

cost_none_at : (r : ℕ) (a : Act) (P : History) → (is_done P r ≡ false → final_cost P r ≡ None) → (is_done_of r a || is_done P r) ≡ false → cost_in r a (final_cost P r) ≡ None
cost_none_at r (Done worker request cost) P ih h = let p = or_parts (request == r) (is_done P r) h in rw p.0 (ih p.1)
cost_none_at r _ P ih h = ih h

-- a request that is not done has no measured cost
pub cost_none : (P : History) (r : ℕ) → is_done P r ≡ false → final_cost P r ≡ None
unfolding is_done
cost_none [] r h = refl
cost_none (e ∷ P) r h = cost_none_at r e.act P (cost_none P r) h

unused_at : (C : Config) (P : History) (m r : ℕ) (a : Act) → Fits C P m a → (is_taken P r ≡ false → last_use P r ≡ 0) → (is_take_of r a || is_taken P r) ≡ false → max (use_in r a) (last_use P r) ≡ 0
unused_at C P m r (Take worker request estimate) f ih h = omega (arith, ih (or_parts (request == r) (is_taken P r) h).1)
unused_at C P m r (Report worker request used) f ih h = rw (ne_eqb request r (λ e. both_ways (is_taken P r) h (rw e at (use_taken P worker request used f.0)))) (omega (arith, ih h))
unused_at C P m r _ f ih h = omega (arith, ih h)

-- no use was reported of a request that is not taken
pub unused : (C : Config) (P : History) (r : ℕ) → IsLegal C P → is_taken P r ≡ false → last_use P r ≡ 0
unfolding is_taken
unused C [] r l h = refl
unused C (e ∷ P) r l h = unused_at C P e.moment r e.act l.3 (unused C P r l.0) h

-- a running request is charged its greatest use at least
pub charge_covers_use : (P : History) (r : ℕ) → is_taken P r ≡ true → is_done P r ≡ false → last_use P r ≤ charge P r
charge_covers_use P r h d = let x = estimate_some P r h in rw (x.1, cost_none P r d) (omega arith)

-- ---- the charge at one entry more

pub charge_submit : (P : History) (who m r q u kind declared label : ℕ) → charge (one_more who m (Submit q u kind declared label) P) r ≡ charge P r
charge_submit P who m r q u kind declared label = rw (zero_max (last_use P r)) refl

pub charge_quiet : (P : History) (who m r : ℕ) (a : Act) → is_quiet a ≡ true → charge (one_more who m a P) r ≡ charge P r
charge_quiet P who m r (Submit request tenant kind declared label) q = absurd (false≢true q)
charge_quiet P who m r (Take worker request estimate) q = absurd (false≢true q)
charge_quiet P who m r (Report worker request used) q = absurd (false≢true q)
charge_quiet P who m r (Done worker request cost) q = absurd (false≢true q)
charge_quiet P who m r _ q = rw (zero_max (last_use P r)) refl

pub charge_withdraw : (P : History) (who m r q : ℕ) → charge (one_more who m (Withdraw q) P) r ≡ charge P r
charge_withdraw P who m r q = rw (zero_max (last_use P r)) refl

-- a Take of another request
pub charge_take_other : (P : History) (who m r w q c : ℕ) → q ≢ r → charge (one_more who m (Take w q c) P) r ≡ charge P r
charge_take_other P who m r w q c ne = rw (ne_eqb q r ne, zero_max (last_use P r)) refl

-- its Take charges a request its estimate
pub charge_take : (C : Config) (P : History) (who m w q c : ℕ) → IsLegal C P → Fits C P m (Take w q c) → charge (one_more who m (Take w q c) P) q ≡ c
charge_take C P who m w q c l f =
    let un : is_taken P q ≡ false = waits_untaken P q (take_waits C P m w q c f) in
    rw (eq-eqb q q refl, cost_none P q (untaken_undone C P q l un), unused C P q l un) (omega arith)

pub charge_report_other : (P : History) (who m r w q used : ℕ) → q ≢ r → charge (one_more who m (Report w q used) P) r ≡ charge P r
charge_report_other P who m r w q used ne = rw (ne_eqb q r ne, zero_max (last_use P r)) refl

-- a use above its charge raises the charge of a request to that use
pub charge_report : (P : History) (who m w q used : ℕ) → FitsUse P w q used → charge (one_more who m (Report w q used) P) q ≡ max used (charge P q)
charge_report P who m w q used f =
    let x = estimate_some P q (use_taken P w q used f) in
    rw (eq-eqb q q refl, x.1, cost_none P q (use_undone P w q used f)) (omega arith)

pub charge_done_other : (P : History) (who m r w q cost : ℕ) → q ≢ r → charge (one_more who m (Done w q cost) P) r ≡ charge P r
charge_done_other P who m r w q cost ne = rw (ne_eqb q r ne, zero_max (last_use P r)) refl

-- its Done charges a request its measured cost
pub charge_done : (P : History) (who m w q cost : ℕ) → FitsUse P w q cost → charge (one_more who m (Done w q cost) P) q ≡ cost
charge_done P who m w q cost f = let x = estimate_some P q (use_taken P w q cost f) in rw (eq-eqb q q refl, x.1) refl

-- ---- the weight at the Take

-- it is the weight that the tenant has there
pub taken_weight_take : (C : Config) (P : History) (who m t w q c : ℕ) → taken_weight C (one_more who m (Take w q c) P) t q ≡ weight_at C P t
taken_weight_take C P who m t w q c = rw (eq-eqb q q refl) refl

pub taken_weight_take_other : (C : Config) (P : History) (who m t r w q c : ℕ) → q ≢ r → taken_weight C (one_more who m (Take w q c) P) t r ≡ taken_weight C P t r
taken_weight_take_other C P who m t r w q c ne = rw (ne_eqb q r ne) refl

-- ---- the charge of each request, by the act of the entry that comes

if_own : (q r x y z : ℕ) → (q ≡ r → x ≡ y) → (q ≢ r → x ≡ z) → x ≡ cond (q == r) y z
if_own q r x y z own other = elim (cases_eq q r) [ inl e ↦ rw (eq-eqb q r e) (own e) | inr ne ↦ rw (ne_eqb q r ne) (other ne) ]

charge_next_at : (C : Config) (P : History) (who m r : ℕ) (a : Act) → IsLegal C P → Fits C P m a → charge (one_more who m a P) r ≡ charge_after P r a
charge_next_at C P who m r (Submit request tenant kind declared label) l f = charge_submit P who m r request tenant kind declared label
charge_next_at C P who m r (Take worker request estimate) l f = if_own request r _ _ _ (λ e. subst (λ s. charge (one_more who m (Take worker request estimate) P) s ≡ estimate) e (charge_take C P who m worker request estimate l f)) (λ ne. charge_take_other P who m r worker request estimate ne)
charge_next_at C P who m r (Report worker request used) l f = if_own request r _ _ _ (λ e. subst (λ s. charge (one_more who m (Report worker request used) P) s ≡ max used (charge P s)) e (charge_report P who m worker request used f.0)) (λ ne. charge_report_other P who m r worker request used ne)
charge_next_at C P who m r (Done worker request cost) l f = if_own request r _ _ _ (λ e. subst (λ s. charge (one_more who m (Done worker request cost) P) s ≡ cost) e (charge_done P who m worker request cost f)) (λ ne. charge_done_other P who m r worker request cost ne)
charge_next_at C P who m r (Withdraw request) l f = charge_withdraw P who m r request
charge_next_at C P who m r a l f = charge_quiet P who m r a refl

-- a charge, one entry on
pub charge_next : (C : Config) (P : History) (e : Entry) (r : ℕ) → IsLegal C (e ∷ P) → charge (e ∷ P) r ≡ charge_after P r e.act
charge_next C P e r l = charge_next_at C P e.who e.moment r e.act l.0 l.3

-- the charge of a request that is done is its measured cost
pub charge_final : (C : Config) (P : History) (r cost : ℕ) → IsLegal C P → final_cost P r ≡ Some cost → charge P r ≡ cost
charge_final C P r cost l h =
    let done : is_done P r ≡ true = true_from_ne_false (is_done P r) (λ no. let none : final_cost P r ≡ None = cost_none P r no in absurd (cc)) in
    let x = estimate_some P r (done_taken C P r l done) in
    rw (x.1, h) refl
