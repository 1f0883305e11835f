-- Consequences where every request is as declared: each charge is the declared cost from the Take on.
use Rattle.std.proofs.Common.{ℕ, ◌+◌, ◌<◌, ◌≤◌, ◌^◌, ◌≡◌, ◌==◌, ◌||◌, ◌∙◌, max, cond, Bool, true, false, not, refl, sym, ap, subst, arith, inl, inr, [], ◌∷◌, ◌++◌, Option, Some, None}
use Rattle.std.proofs.lemmas.Bool.{cases_Bool, false≢true, true_from_ne_false, and_parts, not-false, leb-true, eqb-true, or_parts}
use Rattle.vt_fixed.specs.Rounding.{length_of}
use Rattle.fq_model.specs.declared.config.Config.{Config}
use Rattle.fq_model.specs.declared.config.Estimator.{Estimator}
use Rattle.fq_model.specs.declared.config.Estimator.TheVariants.{Declared}
use Rattle.fq_model.specs.declared.event.Act.{Act}
use Rattle.fq_model.specs.declared.event.Act.TheVariants.{Submit, Take, Report, Done, Withdraw}
use Rattle.fq_model.specs.declared.event.Entry.{Entry}
use Rattle.fq_model.specs.Limits.{InLimits}
use Rattle.fq_model.specs.History.{History, Request, request_at, request_bound, is_of_tenant, is_taken, is_take_of, is_done, last_use, weight_at}
use Rattle.fq_model.specs.Charge.{taken_estimate, estimate_in, final_cost, cost_in, charge, charge_from, taken_weight, virtual_charge, estimate_at, request_estimate}
use Rattle.fq_model.specs.Rules.{IsLegal, Fits, FitsTake, FitsUse}
use Rattle.fq_model.specs.Gap.{is_declared, is_cost_declared, is_as_asked, is_as_declared, not_declared}
use Rattle.fq_laws.specs.Words.{one_more}
use Rattle.fq_laws.proofs.Sums.{least_none}
use Rattle.fq_laws.proofs.History.Numbers.{asked_small}
use Rattle.fq_laws.proofs.History.Requests.{asked_stays, taken_known, use_taken, use_known, use_undone}
use Rattle.fq_laws.proofs.Charge.Requests.{estimate_some, cost_none, charge_report, charge_done}
use Rattle.fq_laws.proofs.Charge.Tenants.{virtual_charge_submit, virtual_charge_taken, virtual_charge_reported, virtual_charge_finished, virtual_charge_withdraw, virtual_charge_quiet}
use Rattle.gap_laws.specs.Words.{HasDeclaredCosts, declared_length, taken_length}

-- the request r with the fields q is as declared
pub record KeepsTo (C : Config) (P : History) (r : ℕ) (q : Request) : Type 0 where
  pub estimator : C.estimate ≡ Declared
  pub uses : last_use P r ≤ q.declared
  pub cost : is_cost_declared q.declared (final_cost P r) ≡ true

abbrev pub AllDeclared : Config → History → Type 0
AllDeclared C P = (r : ℕ) (q : Request) → request_at P r ≡ Some q → KeepsTo C P r q

estimator_declared : (x : Estimator) → is_declared x ≡ true → x ≡ Declared
estimator_declared Declared h = refl
estimator_declared _ h = absurd (false≢true h)

keeps_to : (C : Config) (P : History) (r : ℕ) (q : Request) → is_as_declared C P r ≡ true → request_at P r ≡ Some q → KeepsTo C P r q
unfolding is_as_declared
keeps_to C P r q h was =
    let x : is_as_asked C P r (Some q) ≡ true = rw was at h in
    let p = and_parts _ _ x in
    let k = and_parts _ _ p.1 in
    record { estimator = estimator_declared C.estimate p.0; uses = leb-true _ _ k.0; cost = k.1 }

-- where `not_declared` names no request, every request is as declared
pub all_are_declared : (C : Config) (P : History) → HasDeclaredCosts C P → AllDeclared C P
unfolding not_declared request_bound
all_are_declared C P h = λ r q was.
    let b : r < 2 ^ 32 = asked_small C P r q h.limits h.legal was in
    keeps_to C P r q (not-false _ (least_none (λ s. not (is_as_declared C P s)) (2 ^ 32) h.declared r b)) was

-- ---- shorter histories

pub legal_prefix : (C : Config) (newer P : History) → IsLegal C (newer ++ P) → IsLegal C P
legal_prefix C [] P l = l
legal_prefix C (e ∷ newer) P l = legal_prefix C newer P l.0

cost_older : (C : Config) (P : History) (m r declared : ℕ) (a : Act) → Fits C P m a → is_cost_declared declared (cost_in r a (final_cost P r)) ≡ true → is_cost_declared declared (final_cost P r) ≡ true
cost_older C P m r declared (Done worker request cost) f h = elim (cases_Bool (request == r)) [
  | inl e ↦ rw (cost_none P r (subst (λ s. is_done P s ≡ false) (eqb-true request r e) (use_undone P worker request cost f))) refl
  | inr e ↦ rw e at h
]
cost_older C P m r declared _ f h = h

pub declared_older : (C : Config) (e : Entry) (P : History) → IsLegal C (e ∷ P) → AllDeclared C (e ∷ P) → AllDeclared C P
declared_older C e P l d = λ r q was.
    let k : KeepsTo C (e ∷ P) r q = d r q (asked_stays C P e r q l was) in
    let uses : last_use (e ∷ P) r ≤ q.declared = k.uses in
    record { estimator = k.estimator; uses = omega (arith, uses); cost = cost_older C P e.moment r q.declared e.act l.3 k.cost }

pub declared_prefix : (C : Config) (newer P : History) → IsLegal C (newer ++ P) → AllDeclared C (newer ++ P) → AllDeclared C P
declared_prefix C [] P l d = d
declared_prefix C (e ∷ newer) P l d = declared_prefix C newer P l.0 (declared_older C e (newer ++ P) l d)

-- ---- estimates and charges

-- each estimate is the declared cost
pub estimate_declared : (C : Config) (P : History) (q : Request) → C.estimate ≡ Declared → request_estimate C P q ≡ q.declared
unfolding estimate_at
estimate_declared C P q e = rw e refl

-- so is that of a Take
pub take_declared : (C : Config) (P : History) (m w r estimate : ℕ) (q : Request) → C.estimate ≡ Declared → FitsTake C P m w r estimate → request_at P r ≡ Some q → estimate ≡ q.declared
take_declared C P m w r estimate q e f was =
    let same : Some f.asked ≡ Some q = sym f.chosen.asked ∙ was in
    let j : f.asked ≡ q = cc in
    f.chosen.estimate_is ∙ (estimate_declared C P f.asked e ∙ ap (λ x. x.declared) j)

untaken_at : (r : ℕ) (a : Act) (P : History) → (is_taken P r ≡ false → taken_estimate P r ≡ None) → (is_take_of r a || is_taken P r) ≡ false → estimate_in r a (taken_estimate P r) ≡ None
untaken_at r (Take worker request estimate) P ih h = let p = or_parts (request == r) (is_taken P r) h in rw p.0 (ih p.1)
untaken_at r _ P ih h = ih h

-- a request that is not taken has no estimate in a Take
untaken_estimate : (P : History) (r : ℕ) → is_taken P r ≡ false → taken_estimate P r ≡ None
unfolding is_taken
untaken_estimate [] r h = refl
untaken_estimate (e ∷ P) r h = untaken_at r e.act P (untaken_estimate P r) h

-- a request that has an estimate in a Take is taken
estimate_taken : (P : History) (r x : ℕ) → taken_estimate P r ≡ Some x → is_taken P r ≡ true
estimate_taken P r x h = true_from_ne_false (is_taken P r) (λ no. let none : taken_estimate P r ≡ None = untaken_estimate P r no in absurd (cc))

-- the fields of a taken request were there before any later entry
asked_before : (C : Config) (e : Entry) (P : History) (r : ℕ) (q : Request) → IsLegal C (e ∷ P) → is_taken P r ≡ true → request_at (e ∷ P) r ≡ Some q → request_at P r ≡ Some q
asked_before C e P r q l h was =
    let x = taken_known C P r l.0 h in
    let same : Some x.0 ≡ Some q = sym (asked_stays C P e r x.0 l x.1) ∙ was in
    let j : x.0 ≡ q = cc in
    x.1 ∙ ap Some j

taken_at : (C : Config) (P : History) (who m r x : ℕ) (q : Request) (a : Act) → C.estimate ≡ Declared → IsLegal C (one_more who m a P) → ((y : ℕ) → request_at P r ≡ Some q → taken_estimate P r ≡ Some y → y ≡ q.declared) → request_at (one_more who m a P) r ≡ Some q → estimate_in r a (taken_estimate P r) ≡ Some x → x ≡ q.declared
taken_at C P who m r x q (Take worker request estimate) e l ih was h = elim (cases_Bool (request == r)) [
  | inl is ↦
      let k : Some estimate ≡ Some x = rw is at h in
      let j : estimate ≡ x = cc in
      sym j ∙ take_declared C P m worker request estimate q e l.3 (subst (λ s. request_at P s ≡ Some q) (sym (eqb-true request r is)) was)
  | inr is ↦ ih x was (rw is at h)
]
taken_at C P who m r x q a e l ih was h = ih x (asked_before C (record { who = who; moment = m; act = a }) P r q l (estimate_taken P r x h) was) h

-- the estimate in the Take of a request is its declared cost
taken_declared : (C : Config) (P : History) (r x : ℕ) (q : Request) → C.estimate ≡ Declared → IsLegal C P → request_at P r ≡ Some q → taken_estimate P r ≡ Some x → x ≡ q.declared
taken_declared C [] r x q e l was h = absurd (cc)
taken_declared C (f ∷ P) r x q e l was h = taken_at C P f.who f.moment r x q f.act e l (λ y w k. taken_declared C P r y q e l.0 w k) was h

charged_declared : (declared used : ℕ) (o : Option ℕ) → used ≤ declared → is_cost_declared declared o ≡ true → charge_from (Some declared) o used ≡ declared
charged_declared declared used None low h = omega arith
charged_declared declared used (Some cost) low h = eqb-true cost declared h

-- a taken request is charged its declared cost
pub charge_declared : (C : Config) (P : History) (r : ℕ) (q : Request) → IsLegal C P → AllDeclared C P → request_at P r ≡ Some q → is_taken P r ≡ true → charge P r ≡ q.declared
charge_declared C P r q l d was h =
    let k : KeepsTo C P r q = d r q was in
    let x = estimate_some P r h in
    let is : taken_estimate P r ≡ Some q.declared = x.1 ∙ ap Some (taken_declared C P r x.0 q k.estimator l was x.1) in
    rw is (charged_declared q.declared (last_use P r) (final_cost P r) k.uses k.cost)

-- ---- the virtual charge at one entry more

taken_is : (C : Config) (P : History) (t estimate : ℕ) (o : Option Request) (q : Request) → o ≡ Some q → estimate ≡ q.declared → cond (is_of_tenant t o) (length_of estimate (weight_at C P t)) 0 ≡ declared_length C P t o
taken_is C P t estimate o q is e = rw (is, e) refl

unmoved : (own : Bool) (before after old new w : ℕ) → old ≡ new → after + cond own (length_of old w) 0 ≡ before + cond own (length_of new w) 0 → after ≡ before + 0
unmoved own before after old new w e h = let k : after + cond own (length_of new w) 0 ≡ before + cond own (length_of new w) 0 = rw e at h in omega arith

step_at : (C : Config) (P : History) (who m t : ℕ) (a : Act) → InLimits C → IsLegal C (one_more who m a P) → AllDeclared C (one_more who m a P) → virtual_charge C (one_more who m a P) t ≡ virtual_charge C P t + taken_length C P t a
unfolding is_taken
step_at C P who m t (Submit request tenant kind declared label) lim l d = omega (arith, virtual_charge_submit C P who m t request tenant kind declared label l.0 l.3.numbered)
step_at C P who m t (Take worker request estimate) lim l d =
    let k : KeepsTo C (one_more who m (Take worker request estimate) P) request l.3.asked = d request l.3.asked l.3.chosen.asked in
    let declared : estimate ≡ l.3.asked.declared = take_declared C P m worker request estimate l.3.asked k.estimator l.3 l.3.chosen.asked in
    omega (arith, virtual_charge_taken C P who m t worker request estimate lim l.0 l.3, taken_is C P t estimate (request_at P request) l.3.asked l.3.chosen.asked declared)
step_at C P who m t (Report worker request used) lim l d =
    let f : FitsUse P worker request used = l.3.0 in
    let q = use_known C P worker request used l.0 f in
    let old : charge P request ≡ q.0.declared = charge_declared C P request q.0 l.0 (declared_older C _ P l d) q.1 (use_taken P worker request used f) in
    let new : charge (one_more who m (Report worker request used) P) request ≡ q.0.declared = charge_declared C _ request q.0 l d q.1 (use_taken P worker request used f) in
    let same : charge P request ≡ max used (charge P request) = old ∙ (sym new ∙ charge_report P who m worker request used f) in
    unmoved (is_of_tenant t (request_at P request)) _ _ (charge P request) (max used (charge P request)) (taken_weight C P t request) same (virtual_charge_reported C P who m t worker request used lim l.0 f)
step_at C P who m t (Done worker request cost) lim l d =
    let f : FitsUse P worker request cost = l.3 in
    let q = use_known C P worker request cost l.0 f in
    let old : charge P request ≡ q.0.declared = charge_declared C P request q.0 l.0 (declared_older C _ P l d) q.1 (use_taken P worker request cost f) in
    let new : charge (one_more who m (Done worker request cost) P) request ≡ q.0.declared = charge_declared C _ request q.0 l d q.1 (use_taken P worker request cost f) in
    let same : charge P request ≡ cost = old ∙ (sym new ∙ charge_done P who m worker request cost f) in
    unmoved (is_of_tenant t (request_at P request)) _ _ (charge P request) cost (taken_weight C P t request) same (virtual_charge_finished C P who m t worker request cost lim l.0 f)
step_at C P who m t (Withdraw request) lim l d = omega (arith, virtual_charge_withdraw C P who m t request)
step_at C P who m t a lim l d = omega (arith, virtual_charge_quiet C P who m t a refl)

-- a Take alone changes a virtual charge
pub charge_step : (C : Config) (P : History) (e : Entry) (t : ℕ) → InLimits C → IsLegal C (e ∷ P) → AllDeclared C (e ∷ P) → virtual_charge C (e ∷ P) t ≡ virtual_charge C P t + taken_length C P t e.act
charge_step C P e t lim l d = step_at C P e.who e.moment t e.act lim l d
