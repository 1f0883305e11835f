-- Bounds of lengths by limits of costs and weights.
use Rattle.std.specs.Prelude.{ℕ, ◌≤◌, ◌≢◌, pos, ◌-ℤ◌, ◌≤ℤ◌}
use Rattle.std.specs.Int.{int_max}
use Rattle.vt_fixed.specs.Rounding.{length_of}
use Rattle.fq_model.specs.declared.config.Config.{Config}
use Rattle.fq_model.specs.Gap.{run_start}
use Rattle.fq_model.specs.History.{History}
use Rattle.fq_model.specs.Limits.{InLimits}
use Rattle.fq_model.specs.Rules.{IsLegal}
use Rattle.gap_laws.specs.Laws.{worst_lead, all_and_one}
use Rattle.gap_laws.specs.Words.{AreNoLonger, IsSharedIn}
use Rattle.length_laws.specs.Words.{CostsStayBelow, WeightStaysAbove}

-- no request of f or g costs more than c, and neither has a lesser weight than w
pub record KeepLimits (C : Config) (H : History) (f g c w : ℕ) : Type 0 where
  pub some_cost : 1 ≤ c
  pub some_weight : 1 ≤ w
  pub costs_of_f : CostsStayBelow C H f c
  pub costs_of_g : CostsStayBelow C H g c
  pub weight_of_f : WeightStaysAbove C H f w
  pub weight_of_g : WeightStaysAbove C H g w

-- then none is longer than c at weight w
abbrev pub LengthsAreForetold : Type 0
LengthsAreForetold =
    (C : Config) (H : History) (f g c w : ℕ) → IsLegal C H → KeepLimits C H f g c w
    → AreNoLonger C H f g (length_of c w)

-- and so the worst case of the lead is by that length
abbrev pub WorstLeadIsForetold : Type 0
WorstLeadIsForetold =
    (C : Config) (H P : History) (f g c w : ℕ) → f ≢ g → InLimits C → IsLegal C H → KeepLimits C H f g c w
    → IsSharedIn H f g P
    → worst_lead (length_of c w) C P f g
    ≤ℤ int_max (worst_lead (length_of c w) C (run_start P f g) f g) (pos (all_and_one C (length_of c w)) -ℤ pos 1)
