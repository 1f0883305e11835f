-- The conditions on a rule of costs and on a rule of kinds.
use Rattle.std.specs.Prelude.{ℕ, ◌≤◌, ◌<◌, min}
use Rattle.vt_fixed.specs.declared.limits.TheConstants.{GREATEST_COST}
use Rattle.gate_rules.specs.declared.counters.Counters.{Counters}
use Rattle.gate_rules.specs.Counting.{IsAtMost}

-- no cost is above the greatest
abbrev pub IsWithinLimit : (Counters → ℕ) → Type 0
IsWithinLimit cost_of = (a : Counters) → cost_of a ≤ GREATEST_COST

-- where no counter falls, no cost falls
abbrev pub NeverFalls : (Counters → ℕ) → Type 0
NeverFalls cost_of = (a b : Counters) → IsAtMost a b → cost_of a ≤ cost_of b

-- the work, as far as a cost goes
abbrev pub work_cost : Counters → ℕ
work_cost counters = min counters.work GREATEST_COST

-- a function to kinds, and how many kinds there are
pub record KindsOf (F : Type 0) : Type 0 where
  pub function : F
  pub kinds : ℕ

-- each job's kind is below this number
abbrev pub AnswersBelow : {J : Type 0} → (J → ℕ) → ℕ → Type 0
AnswersBelow kind_of kinds = (job : _) → kind_of job < kinds
