-- The automatic slot.
use Rattle.std.proofs.Common.{ℕ, ◌+◌, ◌*◌, ◌^◌, ◌<◌, ◌≤◌, ◌≡◌, Bool, true, false, Some, None, unwrap_or, arith, ap, sym, ◌∙◌, subst, inl, inr, lit≤, add-one}
use Rattle.std.proofs.lemmas.Bool.{le-leb, false≢true, cases_order}
use Rattle.std.proofs.lemmas.Nat.{mul-le}
use Rattle.std.proofs.Math.Nat.{pow-le-pow_right, one-le-pow, pow-suc}
use Rattle.fq_model.specs.declared.config.Config.{Config}
use Rattle.fq_model.specs.Limits.{InLimits}
use Rattle.fq_model.specs.History.{History}
use Rattle.fq_model.specs.Time.{last_moment}
use Rattle.fq_model.specs.Rules.{IsLegal}
use Rattle.fq_model.specs.Report.{slots_of, are_cells_few, doubled_slot, auto_slot}
use Rattle.fq_laws.proofs.Sums.{IsLeast, least_by, least_exists, least_some}
use Rattle.fq_laws.proofs.Rules.Limits.{last_moment_small}
use Rattle.lag_report.specs.Reports.{Serves}
use Rattle.lag_report.specs.Laws.{AutoSlotServes}

-- the cells are few after j doublings
abbrev few_after : Config → History → ℕ → Bool
few_after C H j = are_cells_few C H (doubled_slot j)

-- the first that is few is the automatic one
pub found : (C : Config) (H : History) (j : ℕ) → j < 41 → few_after C H j ≡ true → ((i : ℕ) → i < j → few_after C H i ≡ false) → doubled_slot j ≡ auto_slot C H
unfolding auto_slot
found C H j small few below = ap (λ o. doubled_slot (unwrap_or o 0)) (sym (least_by (few_after C H) 41 (Some j) (few, small, below)))

pub missed : (C : Config) (H : History) → ((i : ℕ) → i < 41 → few_after C H i ≡ false) → 1000 ≡ auto_slot C H
unfolding auto_slot
missed C H below = ap (λ o. doubled_slot (unwrap_or o 0)) (sym (least_by (few_after C H) 41 None below))

few_at_34 : (C : Config) (H : History) → InLimits C → IsLegal C H → few_after C H 34 ≡ true
few_at_34 C H lim l =
    let low : last_moment H ≤ 10 ^ 15 = last_moment_small C H l in
    let slots : slots_of H (doubled_slot 34) ≤ 59 = omega arith in
    le-leb _ _ (omega (arith, mul-le _ _ _ _ slots lim.tenants.1))

pub slot_low : (j : ℕ) → 1 ≤ doubled_slot j
slot_low j = omega (arith, one-le-pow j 2 (lit≤ tt))

slot_high : (j : ℕ) → j ≤ 34 → doubled_slot j ≤ 10 ^ 15
slot_high j h = omega (arith, pow-le-pow_right {n = 2} (lit≤ tt) h)

pub auto_slot_serves : AutoSlotServes
auto_slot_serves C H lim l =
    let some = least_exists (few_after C H) 41 34 (lit≤ tt) (few_at_34 C H lim l) in
    let least : IsLeast (few_after C H) 41 (Some some.0) = least_some (few_after C H) 41 some.0 some.1 in
    let is : doubled_slot some.0 ≡ auto_slot C H = found C H some.0 least.1 least.0 least.2 in
    let low : some.0 ≤ 34 = elim (cases_order some.0 34) [
      | inl e ↦ omega (arith, e)
      | inr o ↦ elim o [
        | inl less ↦ omega (arith, less)
        | inr more ↦ absurd (false≢true (sym (least.2 34 more) ∙ few_at_34 C H lim l))
      ]
    ] in
    subst (Serves C H) is (record { in_range = (slot_low some.0, slot_high some.0 low); few = least.0 })

pub twice : (slot j : ℕ) → slot ≡ doubled_slot j → slot * 2 ≡ doubled_slot (j + 1)
twice slot j is = rw (add-one, pow-suc 2 j) (omega (arith, is))
