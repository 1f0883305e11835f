-- How the virtual charge and the net charge of a tenant change at one entry more.
use Rattle.std.proofs.Common.{◌≡◌, Bool, true, false, refl, ℕ, arith, sym, ◌∙◌, inl, inr, ◌≢◌, cond, max, [], ◌+◌, ◌^◌, ◌<◌}
use Rattle.std.proofs.lemmas.Bool.{false≢true, and_right, cases_eq, ne_eqb, eq-eqb, or_left}
use Rattle.vt_fixed.specs.Rounding.{length_of}
use Rattle.fq_model.specs.History.{History, request_at, is_of_tenant, is_taken, submits, weight_at, request_bound}
use Rattle.fq_model.specs.Charge.{is_taken_of, charged, net_charged, charge, taken_weight, virtual_charge, net_charge}
use Rattle.fq_model.specs.declared.config.Config.{Config}
use Rattle.fq_model.specs.declared.event.Act.TheVariants.{Submit, Take, Report, Done, Withdraw}
use Rattle.fq_model.specs.Rules.{IsLegal, Fits, FitsUse}
use Rattle.fq_model.specs.Limits.{InLimits}
use Rattle.fq_laws.specs.Words.{one_more, is_quiet}
use Rattle.fq_model.specs.declared.event.Act.{Act}
use Rattle.fq_laws.proofs.History.Requests.{fresh_untaken, use_taken, untaken_nil}
use Rattle.fq_laws.proofs.Charge.Requests.{charge_take, charge_take_other, taken_weight_take_other, taken_weight_take, charge_report, charge_report_other, charge_done, charge_done_other, charge_submit, charge_quiet, charge_withdraw}
use Rattle.fq_laws.proofs.Sums.{sum_zero, sum_at, sum_same}
use Rattle.fq_laws.proofs.Rules.Takes.{take_waits}
use Rattle.fq_laws.proofs.History.Asked.{and_with_true, waits_untaken}
use Rattle.fq_laws.proofs.History.Numbers.{take_request_small, use_small}

-- ---- which requests of a tenant are taken, at one entry more

-- a taken request is a taken request of its tenant
pub taken_of : (P : History) (t r : ℕ) → is_taken P r ≡ true → is_taken_of P t r ≡ is_of_tenant t (request_at P r)
unfolding is_taken_of
taken_of P t r h = and_with_true _ _ h

pub untaken_of : (P : History) (t r : ℕ) → is_taken P r ≡ false → is_taken_of P t r ≡ false
unfolding is_taken_of
untaken_of P t r h = and_right _ _ h

pub taken_of_submit : (C : Config) (P : History) (who m t r q u kind declared label : ℕ) → IsLegal C P → q ≡ submits P → is_taken_of (one_more who m (Submit q u kind declared label) P) t r ≡ is_taken_of P t r
unfolding is_taken_of is_taken
taken_of_submit C P who m t r q u kind declared label l n = elim (cases_eq q r) [
  | inl e ↦ (let un : is_taken P r ≡ false = rw e at (fresh_untaken C P q l (omega arith)) in and_right _ _ un ∙ sym (and_right _ _ un))
  | inr ne ↦ rw (ne_eqb q r ne) refl
]

pub taken_of_take : (P : History) (who m t w q c : ℕ) → is_taken_of (one_more who m (Take w q c) P) t q ≡ is_of_tenant t (request_at P q)
unfolding is_taken_of is_taken
taken_of_take P who m t w q c = and_with_true _ _ (or_left _ _ (eq-eqb q q refl))

pub taken_of_take_other : (P : History) (who m t r w q c : ℕ) → q ≢ r → is_taken_of (one_more who m (Take w q c) P) t r ≡ is_taken_of P t r
unfolding is_taken_of is_taken
taken_of_take_other P who m t r w q c ne = rw (ne_eqb q r ne) refl

pub taken_of_report : (P : History) (who m t r w q used : ℕ) → is_taken_of (one_more who m (Report w q used) P) t r ≡ is_taken_of P t r
unfolding is_taken_of is_taken
taken_of_report P who m t r w q used = refl

pub taken_of_done : (P : History) (who m t r w q cost : ℕ) → is_taken_of (one_more who m (Done w q cost) P) t r ≡ is_taken_of P t r
unfolding is_taken_of is_taken
taken_of_done P who m t r w q cost = refl

pub taken_of_withdraw : (P : History) (who m t r q : ℕ) → is_taken_of (one_more who m (Withdraw q) P) t r ≡ is_taken_of P t r
unfolding is_taken_of is_taken
taken_of_withdraw P who m t r q = refl

pub taken_of_quiet : (P : History) (who m t r : ℕ) (a : Act) → is_quiet a ≡ true → is_taken_of (one_more who m a P) t r ≡ is_taken_of P t r
unfolding is_taken_of is_taken
taken_of_quiet P who m t r (Submit request tenant kind declared label) q = absurd (false≢true q)
taken_of_quiet P who m t r (Take worker request estimate) q = absurd (false≢true q)
taken_of_quiet P who m t r _ q = refl

-- ---- the charges that one request adds

length_same : (a b : Bool) (x y v w : ℕ) → a ≡ b → x ≡ y → v ≡ w → cond a (length_of x v) 0 ≡ cond b (length_of y w) 0
length_same a b x y v w e f g = rw (e, f, g) refl

cost_same : (a b : Bool) (x y : ℕ) → a ≡ b → x ≡ y → cond a x 0 ≡ cond b y 0
cost_same a b x y e f = rw (e, f) refl

-- a request that is not taken adds nothing
pub charged_untaken : (C : Config) (P : History) (t r : ℕ) → is_taken P r ≡ false → charged C P t r ≡ 0
charged_untaken C P t r h = rw (untaken_of P t r h) refl

pub net_charged_untaken : (P : History) (t r : ℕ) → is_taken P r ≡ false → net_charged P t r ≡ 0
net_charged_untaken P t r h = rw (untaken_of P t r h) refl

-- a taken request adds the length of its charge, and its charge, to its own tenant
pub charged_taken : (C : Config) (P : History) (t r : ℕ) → is_taken P r ≡ true → charged C P t r ≡ cond (is_of_tenant t (request_at P r)) (length_of (charge P r) (taken_weight C P t r)) 0
charged_taken C P t r h = length_same _ _ (charge P r) (charge P r) (taken_weight C P t r) _ (taken_of P t r h) refl refl

pub net_charged_taken : (P : History) (t r : ℕ) → is_taken P r ≡ true → net_charged P t r ≡ cond (is_of_tenant t (request_at P r)) (charge P r) 0
net_charged_taken P t r h = cost_same _ _ (charge P r) (charge P r) (taken_of P t r h) refl

-- ---- requests that an entry leaves as they were

-- r adds the same charges to tenant t in Q as in P
pub record Unmoved (C : Config) (P Q : History) (t r : ℕ) : Type 0 where
  pub taken_same : is_taken_of Q t r ≡ is_taken_of P t r
  pub charge_same : charge Q r ≡ charge P r
  pub weight_same : taken_weight C Q t r ≡ taken_weight C P t r

charged_unmoved : (C : Config) (P Q : History) (t r : ℕ) → Unmoved C P Q t r → charged C Q t r ≡ charged C P t r
charged_unmoved C P Q t r u = length_same _ _ (charge Q r) (charge P r) _ _ u.taken_same u.charge_same u.weight_same

net_charged_unmoved : (C : Config) (P Q : History) (t r : ℕ) → Unmoved C P Q t r → net_charged Q t r ≡ net_charged P t r
net_charged_unmoved C P Q t r u = cost_same _ _ (charge Q r) (charge P r) u.taken_same u.charge_same

unmoved_submit : (C : Config) (P : History) (who m t r q u kind declared label : ℕ) → IsLegal C P → q ≡ submits P → Unmoved C P (one_more who m (Submit q u kind declared label) P) t r
unmoved_submit C P who m t r q u kind declared label l n = record { taken_same = taken_of_submit C P who m t r q u kind declared label l n; charge_same = charge_submit P who m r q u kind declared label; weight_same = refl }

unmoved_take : (C : Config) (P : History) (who m t r w q c : ℕ) → q ≢ r → Unmoved C P (one_more who m (Take w q c) P) t r
unmoved_take C P who m t r w q c ne = record { taken_same = taken_of_take_other P who m t r w q c ne; charge_same = charge_take_other P who m r w q c ne; weight_same = taken_weight_take_other C P who m t r w q c ne }

unmoved_report : (C : Config) (P : History) (who m t r w q used : ℕ) → q ≢ r → Unmoved C P (one_more who m (Report w q used) P) t r
unmoved_report C P who m t r w q used ne = record { taken_same = taken_of_report P who m t r w q used; charge_same = charge_report_other P who m r w q used ne; weight_same = refl }

unmoved_done : (C : Config) (P : History) (who m t r w q cost : ℕ) → q ≢ r → Unmoved C P (one_more who m (Done w q cost) P) t r
unmoved_done C P who m t r w q cost ne = record { taken_same = taken_of_done P who m t r w q cost; charge_same = charge_done_other P who m r w q cost ne; weight_same = refl }

taken_weight_quiet : (C : Config) (P : History) (who m t r : ℕ) (a : Act) → is_quiet a ≡ true → taken_weight C (one_more who m a P) t r ≡ taken_weight C P t r
taken_weight_quiet C P who m t r (Take worker request estimate) q = absurd (false≢true q)
taken_weight_quiet C P who m t r _ q = refl

unmoved_quiet : (C : Config) (P : History) (who m t r : ℕ) (a : Act) → is_quiet a ≡ true → Unmoved C P (one_more who m a P) t r
unmoved_quiet C P who m t r a q = record { taken_same = taken_of_quiet P who m t r a q; charge_same = charge_quiet P who m r a q; weight_same = taken_weight_quiet C P who m t r a q }

unmoved_withdraw : (C : Config) (P : History) (who m t r q : ℕ) → Unmoved C P (one_more who m (Withdraw q) P) t r
unmoved_withdraw C P who m t r q = record { taken_same = taken_of_withdraw P who m t r q; charge_same = charge_withdraw P who m r q; weight_same = refl }

-- ---- the virtual charge at one entry more

pub virtual_charge_nil : (C : Config) (t : ℕ) → virtual_charge C [] t ≡ 0
unfolding virtual_charge
virtual_charge_nil C t = sum_zero (charged C [] t) request_bound (λ r. charged_untaken C [] t r (untaken_nil r))

pub net_charge_nil : (t : ℕ) → net_charge [] t ≡ 0
unfolding net_charge
net_charge_nil t = sum_zero (net_charged [] t) request_bound (λ r. net_charged_untaken [] t r (untaken_nil r))

-- where no request is moved
virtual_charge_still : (C : Config) (P Q : History) (t : ℕ) → ((r : ℕ) → Unmoved C P Q t r) → virtual_charge C Q t ≡ virtual_charge C P t
unfolding virtual_charge
virtual_charge_still C P Q t still = sum_same (charged C Q t) (charged C P t) request_bound (λ r b. charged_unmoved C P Q t r (still r))

net_charge_still : (C : Config) (P Q : History) (t : ℕ) → ((r : ℕ) → Unmoved C P Q t r) → net_charge Q t ≡ net_charge P t
unfolding net_charge
net_charge_still C P Q t still = sum_same (net_charged Q t) (net_charged P t) request_bound (λ r b. net_charged_unmoved C P Q t r (still r))

-- where q alone is
virtual_charge_at : (C : Config) (P Q : History) (t q : ℕ) → q < 2 ^ 32 → ((r : ℕ) → q ≢ r → Unmoved C P Q t r) → virtual_charge C Q t + charged C P t q ≡ virtual_charge C P t + charged C Q t q
unfolding virtual_charge request_bound
virtual_charge_at C P Q t q b others = sum_at (charged C P t) (charged C Q t) q (2 ^ 32) b (λ r ne. sym (charged_unmoved C P Q t r (others r (λ e. ne (sym e)))))

net_charge_at : (C : Config) (P Q : History) (t q : ℕ) → q < 2 ^ 32 → ((r : ℕ) → q ≢ r → Unmoved C P Q t r) → net_charge Q t + net_charged P t q ≡ net_charge P t + net_charged Q t q
unfolding net_charge request_bound
net_charge_at C P Q t q b others = sum_at (net_charged P t) (net_charged Q t) q (2 ^ 32) b (λ r ne. sym (net_charged_unmoved C P Q t r (others r (λ e. ne (sym e)))))

-- a Submit changes no charge
pub virtual_charge_submit : (C : Config) (P : History) (who m t q u kind declared label : ℕ) → IsLegal C P → q ≡ submits P → virtual_charge C (one_more who m (Submit q u kind declared label) P) t ≡ virtual_charge C P t
virtual_charge_submit C P who m t q u kind declared label l n = virtual_charge_still C P _ t (λ r. unmoved_submit C P who m t r q u kind declared label l n)

pub net_charge_submit : (C : Config) (P : History) (who m t q u kind declared label : ℕ) → IsLegal C P → q ≡ submits P → net_charge (one_more who m (Submit q u kind declared label) P) t ≡ net_charge P t
net_charge_submit C P who m t q u kind declared label l n = net_charge_still C P _ t (λ r. unmoved_submit C P who m t r q u kind declared label l n)

-- nor does a Withdraw
pub virtual_charge_withdraw : (C : Config) (P : History) (who m t q : ℕ) → virtual_charge C (one_more who m (Withdraw q) P) t ≡ virtual_charge C P t
virtual_charge_withdraw C P who m t q = virtual_charge_still C P _ t (λ r. unmoved_withdraw C P who m t r q)

pub net_charge_withdraw : (C : Config) (P : History) (who m t q : ℕ) → net_charge (one_more who m (Withdraw q) P) t ≡ net_charge P t
net_charge_withdraw C P who m t q = net_charge_still C P _ t (λ r. unmoved_withdraw C P who m t r q)

-- nor does an act that touches no request
pub virtual_charge_quiet : (C : Config) (P : History) (who m t : ℕ) (a : Act) → is_quiet a ≡ true → virtual_charge C (one_more who m a P) t ≡ virtual_charge C P t
virtual_charge_quiet C P who m t a q = virtual_charge_still C P _ t (λ r. unmoved_quiet C P who m t r a q)

pub net_charge_quiet : (P : History) (who m t : ℕ) (a : Act) → is_quiet a ≡ true → net_charge (one_more who m a P) t ≡ net_charge P t
unfolding net_charge
net_charge_quiet P who m t a q = sum_same (net_charged (one_more who m a P) t) (net_charged P t) request_bound (λ r b. cost_same _ _ (charge (one_more who m a P) r) (charge P r) (taken_of_quiet P who m t r a q) (charge_quiet P who m r a q))

-- a Take, a Report and a Done change the charges that one request adds
pub virtual_charge_take : (C : Config) (P : History) (who m t w q c : ℕ) → q < 2 ^ 32 → virtual_charge C (one_more who m (Take w q c) P) t + charged C P t q ≡ virtual_charge C P t + charged C (one_more who m (Take w q c) P) t q
virtual_charge_take C P who m t w q c b = virtual_charge_at C P _ t q b (λ r. unmoved_take C P who m t r w q c)

pub virtual_charge_report : (C : Config) (P : History) (who m t w q used : ℕ) → q < 2 ^ 32 → virtual_charge C (one_more who m (Report w q used) P) t + charged C P t q ≡ virtual_charge C P t + charged C (one_more who m (Report w q used) P) t q
virtual_charge_report C P who m t w q used b = virtual_charge_at C P _ t q b (λ r. unmoved_report C P who m t r w q used)

pub virtual_charge_done : (C : Config) (P : History) (who m t w q cost : ℕ) → q < 2 ^ 32 → virtual_charge C (one_more who m (Done w q cost) P) t + charged C P t q ≡ virtual_charge C P t + charged C (one_more who m (Done w q cost) P) t q
virtual_charge_done C P who m t w q cost b = virtual_charge_at C P _ t q b (λ r. unmoved_done C P who m t r w q cost)

-- ---- changes of a tenant's charges in legal histories

-- a Take adds the length of its estimate to its tenant
pub virtual_charge_taken : (C : Config) (P : History) (who m t w q c : ℕ) → InLimits C → IsLegal C P → Fits C P m (Take w q c) → virtual_charge C (one_more who m (Take w q c) P) t ≡ virtual_charge C P t + cond (is_of_tenant t (request_at P q)) (length_of c (weight_at C P t)) 0
virtual_charge_taken C P who m t w q c lim l f =
    let one = virtual_charge_take C P who m t w q c (take_request_small C P m w q c lim l f) in
    let new : charged C (one_more who m (Take w q c) P) t q ≡ cond (is_of_tenant t (request_at P q)) (length_of c (weight_at C P t)) 0 = length_same _ _ (charge (one_more who m (Take w q c) P) q) c _ _ (taken_of_take P who m t w q c) (charge_take C P who m w q c l f) (taken_weight_take C P who m t w q c) in
    omega (arith, one, new, charged_untaken C P t q (waits_untaken P q (take_waits C P m w q c f)))

pub net_charge_taken : (C : Config) (P : History) (who m t w q c : ℕ) → InLimits C → IsLegal C P → Fits C P m (Take w q c) → net_charge (one_more who m (Take w q c) P) t ≡ net_charge P t + cond (is_of_tenant t (request_at P q)) c 0
net_charge_taken C P who m t w q c lim l f =
    let one = net_charge_at C P (one_more who m (Take w q c) P) t q (take_request_small C P m w q c lim l f) (λ r. unmoved_take C P who m t r w q c) in
    let new : net_charged (one_more who m (Take w q c) P) t q ≡ cond (is_of_tenant t (request_at P q)) c 0 = cost_same _ _ (charge (one_more who m (Take w q c) P) q) c (taken_of_take P who m t w q c) (charge_take C P who m w q c l f) in
    omega (arith, one, new, net_charged_untaken P t q (waits_untaken P q (take_waits C P m w q c f)))

-- where the request q that runs is charged x in Q, and nothing else of it and of the others is changed
record Recharges (C : Config) (P Q : History) (t q x : ℕ) : Type 0 where
  small : q < 2 ^ 32
  was_taken : is_taken P q ≡ true
  taken_same : is_taken_of Q t q ≡ is_taken_of P t q
  charge_is : charge Q q ≡ x
  weight_same : taken_weight C Q t q ≡ taken_weight C P t q
  others : (r : ℕ) → q ≢ r → Unmoved C P Q t r

virtual_charge_recharged : (C : Config) (P Q : History) (t q x : ℕ) → Recharges C P Q t q x → virtual_charge C Q t + cond (is_of_tenant t (request_at P q)) (length_of (charge P q) (taken_weight C P t q)) 0 ≡ virtual_charge C P t + cond (is_of_tenant t (request_at P q)) (length_of x (taken_weight C P t q)) 0
virtual_charge_recharged C P Q t q x h =
    let new : charged C Q t q ≡ cond (is_of_tenant t (request_at P q)) (length_of x (taken_weight C P t q)) 0 = length_same _ _ (charge Q q) x _ _ (h.taken_same ∙ taken_of P t q h.was_taken) h.charge_is h.weight_same in
    rw (← charged_taken C P t q h.was_taken, ← new) (virtual_charge_at C P Q t q h.small h.others)

net_charge_recharged : (C : Config) (P Q : History) (t q x : ℕ) → Recharges C P Q t q x → net_charge Q t + cond (is_of_tenant t (request_at P q)) (charge P q) 0 ≡ net_charge P t + cond (is_of_tenant t (request_at P q)) x 0
net_charge_recharged C P Q t q x h =
    let new : net_charged Q t q ≡ cond (is_of_tenant t (request_at P q)) x 0 = cost_same _ _ (charge Q q) x (h.taken_same ∙ taken_of P t q h.was_taken) h.charge_is in
    rw (← net_charged_taken P t q h.was_taken, ← new) (net_charge_at C P Q t q h.small h.others)

report_recharges : (C : Config) (P : History) (who m t w q used : ℕ) → InLimits C → IsLegal C P → FitsUse P w q used → Recharges C P (one_more who m (Report w q used) P) t q (max used (charge P q))
report_recharges C P who m t w q used lim l f = record { small = use_small C P w q used lim l f; was_taken = use_taken P w q used f; taken_same = taken_of_report P who m t q w q used; charge_is = charge_report P who m w q used f; weight_same = refl; others = λ r. unmoved_report C P who m t r w q used }

done_recharges : (C : Config) (P : History) (who m t w q cost : ℕ) → InLimits C → IsLegal C P → FitsUse P w q cost → Recharges C P (one_more who m (Done w q cost) P) t q cost
done_recharges C P who m t w q cost lim l f = record { small = use_small C P w q cost lim l f; was_taken = use_taken P w q cost f; taken_same = taken_of_done P who m t q w q cost; charge_is = charge_done P who m w q cost f; weight_same = refl; others = λ r. unmoved_done C P who m t r w q cost }

-- a Report raises the length of the charge of its request to that of the use, where this is greater
pub virtual_charge_reported : (C : Config) (P : History) (who m t w q used : ℕ) → InLimits C → IsLegal C P → FitsUse P w q used → virtual_charge C (one_more who m (Report w q used) P) t + cond (is_of_tenant t (request_at P q)) (length_of (charge P q) (taken_weight C P t q)) 0 ≡ virtual_charge C P t + cond (is_of_tenant t (request_at P q)) (length_of (max used (charge P q)) (taken_weight C P t q)) 0
virtual_charge_reported C P who m t w q used lim l f = virtual_charge_recharged C P _ t q (max used (charge P q)) (report_recharges C P who m t w q used lim l f)

pub net_charge_reported : (C : Config) (P : History) (who m t w q used : ℕ) → InLimits C → IsLegal C P → FitsUse P w q used → net_charge (one_more who m (Report w q used) P) t + cond (is_of_tenant t (request_at P q)) (charge P q) 0 ≡ net_charge P t + cond (is_of_tenant t (request_at P q)) (max used (charge P q)) 0
net_charge_reported C P who m t w q used lim l f = net_charge_recharged C P _ t q (max used (charge P q)) (report_recharges C P who m t w q used lim l f)

-- a Done makes the length of the charge of its request that of the cost
pub virtual_charge_finished : (C : Config) (P : History) (who m t w q cost : ℕ) → InLimits C → IsLegal C P → FitsUse P w q cost → virtual_charge C (one_more who m (Done w q cost) P) t + cond (is_of_tenant t (request_at P q)) (length_of (charge P q) (taken_weight C P t q)) 0 ≡ virtual_charge C P t + cond (is_of_tenant t (request_at P q)) (length_of cost (taken_weight C P t q)) 0
virtual_charge_finished C P who m t w q cost lim l f = virtual_charge_recharged C P _ t q cost (done_recharges C P who m t w q cost lim l f)

pub net_charge_finished : (C : Config) (P : History) (who m t w q cost : ℕ) → InLimits C → IsLegal C P → FitsUse P w q cost → net_charge (one_more who m (Done w q cost) P) t + cond (is_of_tenant t (request_at P q)) (charge P q) 0 ≡ net_charge P t + cond (is_of_tenant t (request_at P q)) cost 0
net_charge_finished C P who m t w q cost lim l f = net_charge_recharged C P _ t q cost (done_recharges C P who m t w q cost lim l f)
