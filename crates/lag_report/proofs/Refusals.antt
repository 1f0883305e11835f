-- Why there is no report.
use Rattle.std.proofs.Common.{ℕ, ◌*◌, ◌<◌, ◌≤◌, ◌≡◌, ◌^◌, ◌⊎◌, not, [], ◌∷◌, Option, Some, None, is_some, unwrap_or, length, arith, refl, ap, sym, ◌∙◌, subst, inl, inr, Result, Ok, Err, IfErr, IsErrAnd}
use Rattle.std.proofs.lemmas.Bool.{le-leb, lt-leb}
use Rattle.std.proofs.Math.Nat.{mul-le-mul_left}
use Rattle.fq_model.specs.declared.config.Config.{Config}
use Rattle.fq_model.specs.Rows.{first_true}
use Rattle.fq_model.specs.History.{History, request_bound}
use Rattle.fq_model.specs.Report.{slots_of, cells_of, are_cells_few, unfinished, is_unfinished}
use Rattle.fluid_reference.specs.declared.fault.FluidFault.{FluidFault}
use Rattle.fluid_reference.specs.declared.fault.FluidFault.TheVariants as fluid
use Rattle.fluid_reference.specs.Slots.{IsTooLong, too_long}
use Rattle.fq_laws.proofs.Sums.{least_some}
use Rattle.lag_report.specs.declared.fault.ReportFault.{ReportFault}
use Rattle.lag_report.specs.declared.fault.ReportFault.TheVariants.{Unfinished, TooLong}
use Rattle.lag_report.specs.Faults.{fault_from}
use Rattle.lag_report.specs.Reports.{report_refusal, IsReason}

-- the number of a request that waits or runs fits
pub small : (H : History) (r : ℕ) → unfinished H ≡ Some r → r < 2 ^ 32
unfolding unfinished request_bound
small H r is = (least_some (is_unfinished H) (2 ^ 32) r is).1

-- a request that waits or runs is the first reason
pub for_request : (C : Config) (H : History) (Q r : ℕ) → unfinished H ≡ Some r → report_refusal C H Q ≡ Some (Unfinished r)
for_request C H Q r is = ap (λ o. first_true ((is_some o, Unfinished (unwrap_or o 0)) ∷ (not (are_cells_few C H Q), TooLong (slots_of H Q) (length C.weights)) ∷ [])) is

-- and where none does it is the cells
for_cells : (C : Config) (H : History) (Q : ℕ) → unfinished H ≡ None → report_refusal C H Q ≡ first_true ((not (are_cells_few C H Q), TooLong (slots_of H Q) (length C.weights)) ∷ [])
for_cells C H Q is = ap (λ o. first_true ((is_some o, Unfinished (unwrap_or o 0)) ∷ (not (are_cells_few C H Q), TooLong (slots_of H Q) (length C.weights)) ∷ [])) is

pub for_many : (C : Config) (H : History) (Q : ℕ) → unfinished H ≡ None → 4000000 < cells_of C H Q → report_refusal C H Q ≡ Some (TooLong (slots_of H Q) (length C.weights))
for_many C H Q is more = for_cells C H Q is ∙ ap (λ b. first_true ((not b, TooLong (slots_of H Q) (length C.weights)) ∷ [])) (lt-leb (cells_of C H Q) 4000000 more)

pub for_none : (C : Config) (H : History) (Q : ℕ) → unfinished H ≡ None → cells_of C H Q ≤ 4000000 → report_refusal C H Q ≡ None
for_none C H Q is few = for_cells C H Q is ∙ ap (λ b. first_true ((not b, TooLong (slots_of H Q) (length C.weights)) ∷ [])) (le-leb (cells_of C H Q) 4000000 few)

-- a fault of the fluid service is a reason
pub for_fluid : (C : Config) (H : History) (Q n : ℕ) (f : FluidFault) → unfinished H ≡ None → n ≡ slots_of H Q → (f ≡ fluid.NoMemory) ⊎ ((f ≡ too_long C n) × IsTooLong C n) → IsReason (fault_from f) (report_refusal C H Q)
for_fluid C H Q n f is same (inl e) = subst (λ g. IsReason (fault_from g) (report_refusal C H Q)) (sym e) tt
for_fluid C H Q n f is same (inr p) = subst (λ g. IsReason (fault_from g) (report_refusal C H Q)) (sym (p.0 ∙ ap (too_long C) same)) (for_many C H Q is (subst (λ k. 4000000 < k * length C.weights) same p.1))

-- slots are few where their cells are
pub few_slots : (n tenants : ℕ) → 1 ≤ tenants → n * tenants ≤ 4000000 → n ≤ 4000000
few_slots n tenants some few = omega (arith, few, mul-le-mul_left {m = 1} {n = tenants} n some)

pub none_from : (o : Option ℕ) → ((x : ℕ) → o ≡ Some x → ⊥) → o ≡ None
none_from None h = refl
none_from (Some x) h = absurd (h x refl)

-- a fault that is given is the reason that it was made of
pub given_reason : {X : Type 0} (r : Result X ReportFault) (fault : ReportFault) (refusal : Option ReportFault) → IsErrAnd r (λ f. f ≡ fault) → IsReason fault refusal → IfErr r (λ f. IsReason f refusal)
given_reason (Ok x) fault refusal h reason = tt
given_reason (Err f) fault refusal h reason = subst (λ g. IsReason g refusal) (sym h) reason
