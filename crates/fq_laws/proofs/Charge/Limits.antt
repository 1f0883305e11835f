-- Limits of charges in legal histories.
use Rattle.std.proofs.Common.{refl, ℕ, ◌+◌, ◌≤◌, arith, inl, inr, [], ◌∷◌, ◌<◌, length, ◌≡◌, true, false, cond, ◌⊎◌, ◌*◌}
use Rattle.std.proofs.lemmas.Bool.{cases_eq, cases_Bool}
use Rattle.vt_fixed.specs.Rounding.{length_of}
use Rattle.vt_fixed.proofs.Bounds.{length_high}
use Rattle.fq_model.specs.declared.config.Config.{Config}
use Rattle.fq_model.specs.declared.event.Act.{Act}
use Rattle.fq_model.specs.declared.event.Act.TheVariants.{Submit, Take, Report, Done, Withdraw}
use Rattle.fq_model.specs.declared.event.Entry.{Entry}
use Rattle.fq_model.specs.Limits.{InLimits}
use Rattle.fq_model.specs.History.{History, weight_at, request_at, is_of_tenant, is_taken, submits, request_bound}
use Rattle.fq_model.specs.Charge.{charge, taken_weight, charged, virtual_charge, net_charged, net_charge}
use Rattle.fq_model.specs.Rules.{IsLegal, Fits}
use Rattle.fq_model.specs.Sums.{count_below}
use Rattle.vt_fixed.specs.declared.limits.TheConstants.{GREATEST_COST}
use Rattle.fq_model.specs.declared.limits.TheConstants.{MOST_LONG_ENTRIES}
use Rattle.fq_laws.specs.Words.{one_more, greatest_length}
use Rattle.fq_laws.proofs.Charge.Requests.{charge_submit, charge_withdraw, charge_quiet, charge_take, charge_take_other, charge_report, charge_report_other, charge_done, charge_done_other}
use Rattle.fq_laws.proofs.Charge.Estimates.{estimate_range}
use Rattle.fq_laws.proofs.History.Weights.{weight_low, taken_weight_low}
use Rattle.fq_laws.proofs.History.Requests.{tenant_below}
use Rattle.fq_laws.proofs.History.Numbers.{take_request_small, use_small}
use Rattle.fq_laws.proofs.Charge.Tenants.{charged_untaken, charged_taken, net_charged_untaken, net_charged_taken, virtual_charge_submit, virtual_charge_take, virtual_charge_report, virtual_charge_done, virtual_charge_withdraw, virtual_charge_quiet}
use Rattle.fq_laws.proofs.Sums.{sum_at_most}
use Rattle.fq_laws.proofs.Rules.Limits.{taken_count_low, submits_low}

-- ---- charges

charge_low_at : (C : Config) (P : History) (who m r : ℕ) (a : Act) → InLimits C → IsLegal C P → Fits C P m a → charge P r ≤ GREATEST_COST → charge (one_more who m a P) r ≤ GREATEST_COST
charge_low_at C P who m r (Submit request tenant kind declared label) lim l f h = rw (charge_submit P who m r request tenant kind declared label) h
charge_low_at C P who m r (Take worker request estimate) lim l f h = elim (cases_eq request r) [
  | inl e ↦ rw (← e) (let k = estimate_range C P request f.asked lim l f.chosen.asked in omega (arith, charge_take C P who m worker request estimate l f, k.1, f.chosen.estimate_is))
  | inr ne ↦ omega (arith, charge_take_other P who m r worker request estimate ne, h)
]
charge_low_at C P who m r (Report worker request used) lim l f h = elim (cases_eq request r) [
  | inl e ↦ rw (← e) (let k : charge P request ≤ GREATEST_COST = rw (← e) at h in omega (arith, charge_report P who m worker request used f.0, f.0.in_range))
  | inr ne ↦ omega (arith, charge_report_other P who m r worker request used ne, h)
]
charge_low_at C P who m r (Done worker request cost) lim l f h = elim (cases_eq request r) [
  | inl e ↦ rw (← e) (omega (arith, charge_done P who m worker request cost f, f.in_range))
  | inr ne ↦ omega (arith, charge_done_other P who m r worker request cost ne, h)
]
charge_low_at C P who m r (Withdraw request) lim l f h = rw (charge_withdraw P who m r request) h
charge_low_at C P who m r a lim l f h = rw (charge_quiet P who m r a refl) h

-- no request is charged more than the greatest cost
pub charge_low : (C : Config) (P : History) (r : ℕ) → InLimits C → IsLegal C P → charge P r ≤ GREATEST_COST
charge_low C [] r lim l = omega arith
charge_low C (e ∷ P) r lim l = charge_low_at C P e.who e.moment r e.act lim l.0 l.3 (charge_low C P r lim l.0)

-- no length of an estimate or a charge is above the length of the greatest cost at the least weight
pub length_low : (C : Config) (P : History) (t cost : ℕ) → InLimits C → IsLegal C P → t < length C.weights → cost ≤ GREATEST_COST → length_of cost (weight_at C P t) ≤ greatest_length
length_low C P t cost lim l b c = length_high cost (weight_at C P t) c (weight_low C P t lim l b)

-- ---- virtual charges and net charges

charged_at_most : (C : Config) (P : History) (t r : ℕ) → InLimits C → IsLegal C P → charged C P t r ≤ cond (is_taken P r) greatest_length 0
charged_at_most C P t r lim l = elim (cases_Bool (is_taken P r)) [
  | inl e ↦ (let k : charged C P t r ≤ greatest_length = rw (charged_taken C P t r e) (within e (cases_Bool (is_of_tenant t (request_at P r)))) in rw e k)
  | inr e ↦ rw e (omega (arith, charged_untaken C P t r e))
]
  where
    within : is_taken P r ≡ true → ((is_of_tenant t (request_at P r) ≡ true) ⊎ (is_of_tenant t (request_at P r) ≡ false)) → cond (is_of_tenant t (request_at P r)) (length_of (charge P r) (taken_weight C P t r)) 0 ≤ greatest_length
    within e (inl m) = rw m (length_high (charge P r) (taken_weight C P t r) (charge_low C P r lim l) (taken_weight_low C P t r lim l (tenant_below C P t r l m) e))
    within e (inr m) = rw m (omega arith)

pub charged_low : (C : Config) (P : History) (t r : ℕ) → InLimits C → IsLegal C P → charged C P t r ≤ greatest_length
charged_low C P t r lim l = elim (cases_Bool (is_taken P r)) [
  | inl e ↦ (let k : charged C P t r ≤ greatest_length = rw e at (charged_at_most C P t r lim l) in k)
  | inr e ↦ omega (arith, charged_untaken C P t r e)
]

grows_at : (C : Config) (P : History) (who m t : ℕ) (a : Act) → InLimits C → IsLegal C (one_more who m a P) → virtual_charge C (one_more who m a P) t ≤ virtual_charge C P t + greatest_length
grows_at C P who m t (Submit request tenant kind declared label) lim l = omega (arith, virtual_charge_submit C P who m t request tenant kind declared label l.0 l.3.numbered)
grows_at C P who m t (Take worker request estimate) lim l =
    omega (arith, virtual_charge_take C P who m t worker request estimate (take_request_small C P m worker request estimate lim l.0 l.3), charged_low C (one_more who m (Take worker request estimate) P) t request lim l)
grows_at C P who m t (Report worker request used) lim l =
    omega (arith, virtual_charge_report C P who m t worker request used (use_small C P worker request used lim l.0 l.3.0), charged_low C (one_more who m (Report worker request used) P) t request lim l)
grows_at C P who m t (Done worker request cost) lim l =
    omega (arith, virtual_charge_done C P who m t worker request cost (use_small C P worker request cost lim l.0 l.3), charged_low C (one_more who m (Done worker request cost) P) t request lim l)
grows_at C P who m t (Withdraw request) lim l = omega (arith, virtual_charge_withdraw C P who m t request)
grows_at C P who m t a lim l = omega (arith, virtual_charge_quiet C P who m t a refl)

-- an entry raises a virtual charge by at most the greatest length
pub virtual_charge_grows : (C : Config) (P : History) (e : Entry) (t : ℕ) → InLimits C → IsLegal C (e ∷ P) → virtual_charge C (e ∷ P) t ≤ virtual_charge C P t + greatest_length
virtual_charge_grows C P e t lim l = grows_at C P e.who e.moment t e.act lim l

-- a virtual charge is at most the greatest length for each request
pub virtual_charge_low : (C : Config) (P : History) (t : ℕ) → InLimits C → IsLegal C P → virtual_charge C P t ≤ submits P * greatest_length
unfolding virtual_charge
virtual_charge_low C P t lim l =
    let a : virtual_charge C P t ≤ count_below (is_taken P) request_bound * greatest_length = sum_at_most (charged C P t) (is_taken P) greatest_length request_bound (λ r. charged_at_most C P t r lim l) in
    omega (arith, a, taken_count_low C P lim l)

net_charged_at_most : (C : Config) (P : History) (t r : ℕ) → InLimits C → IsLegal C P → net_charged P t r ≤ cond (is_taken P r) GREATEST_COST 0
net_charged_at_most C P t r lim l = elim (cases_Bool (is_taken P r)) [
  | inl e ↦ (let k : net_charged P t r ≤ GREATEST_COST = rw (net_charged_taken P t r e) (within (cases_Bool (is_of_tenant t (request_at P r)))) in rw e k)
  | inr e ↦ rw e (omega (arith, net_charged_untaken P t r e))
]
  where
    within : ((is_of_tenant t (request_at P r) ≡ true) ⊎ (is_of_tenant t (request_at P r) ≡ false)) → cond (is_of_tenant t (request_at P r)) (charge P r) 0 ≤ GREATEST_COST
    within (inl m) = rw m (charge_low C P r lim l)
    within (inr m) = rw m (omega arith)

pub net_charge_low : (C : Config) (P : History) (t : ℕ) → InLimits C → IsLegal C P → net_charge P t ≤ submits P * GREATEST_COST
unfolding net_charge
net_charge_low C P t lim l =
    let a : net_charge P t ≤ count_below (is_taken P) request_bound * GREATEST_COST = sum_at_most (net_charged P t) (is_taken P) GREATEST_COST request_bound (λ r. net_charged_at_most C P t r lim l) in
    omega (arith, a, taken_count_low C P lim l)

pub virtual_charge_within : (C : Config) (P : History) (t : ℕ) → InLimits C → IsLegal C P → virtual_charge C P t ≤ MOST_LONG_ENTRIES * greatest_length
virtual_charge_within C P t lim l = let k = submits_low C P lim l in omega (arith, virtual_charge_low C P t lim l, k.1)
