-- The course of a job whose work rises by one step a slice.
use Rattle.std.specs.Prelude.{◌≡◌, ℕ, suc, ◌+◌, ◌*◌, ◌<◌, ◌≤◌, min, List, length, map}
use Rattle.std.specs.List.{range_with_len}
use Rattle.vt_fixed.specs.declared.limits.TheConstants.{GREATEST_COST}
use Rattle.fq_model.specs.declared.limits.TheConstants.{MOST_SLICES}
use Rattle.program_model.specs.Courses.{reports_below}
use Rattle.program_model.specs.PoolHistory.{step_of}
use Rattle.gate_rules.specs.declared.counters.Counters.{Counters}
use Rattle.gate_rules.specs.Slices.{counters_after, total, IsCourse}

-- this work and nothing else
abbrev pub work_only : ℕ → Counters
work_only work = record { work = work; items = 0; bytes = 0 }

-- the counters after slice k: k + 1 steps of work, and at most the cost
abbrev pub step_counters : ℕ → ℕ → ℕ → Counters
step_counters step cost k = work_only (min cost (suc k * step))

-- one slice for each use that is reported, and one for the cost
abbrev pub step_course : ℕ → ℕ → List Counters
step_course step cost = map (step_counters step cost) (range_with_len 0 (reports_below step cost + 1))

-- there is a cost, and it is reached in as many slices as there may be
pub record IsStepping (step cost : ℕ) : Type 0 where
  pub some : 1 ≤ cost
  pub limit : cost ≤ GREATEST_COST
  pub small : step ≤ GREATEST_COST
  pub few : cost ≤ MOST_SLICES * step

-- a cost is counted up: each use that is reported is a number of steps, and the total of the course is the cost
pub record CountsUp (step cost : ℕ) : Type 0 where
  pub is_course : IsCourse (step_course step cost)
  pub length_is : length (step_course step cost) ≡ reports_below step cost + 1
  pub reported :
      (k : ℕ) → k < reports_below step cost → counters_after (step_course step cost) k ≡ work_only (suc k * step)
  pub total_is : total (step_course step cost) ≡ work_only cost

-- each cost of a trace is counted up, however often its use is to be reported
abbrev pub StepsCountUp : Type 0
StepsCountUp =
    (refresh cost : ℕ) → refresh ≤ GREATEST_COST → 1 ≤ cost → cost ≤ GREATEST_COST
    → CountsUp (step_of refresh cost) cost
