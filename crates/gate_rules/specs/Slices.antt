-- The course of a job, and the slices that follow it.
use Rattle.std.specs.Prelude.{◌≡◌, ℕ, zero, suc, ◌<◌, ◌≤◌, ◌==◌, if◌then◌else◌, List, length, get_or, Option, Some, None}
use Rattle.fq_model.specs.declared.limits.TheConstants.{MOST_SLICES}
use Rattle.gate_rules.specs.declared.counters.Counters.{Counters}
use Rattle.gate_rules.specs.declared.counters.TheConstants.{NO_COUNTERS}
use Rattle.gate_rules.specs.declared.gate.Slice.{Slice}
use Rattle.gate_rules.specs.declared.gate.Slice.TheVariants.{More, End}
use Rattle.gate_rules.specs.Counting.{IsAtMost}

-- the counters after slice k, counted from 0
abbrev pub counters_after : List Counters → ℕ → Counters
counters_after course k = get_or course k NO_COUNTERS

-- the counters before slice k
abbrev pub counters_before : List Counters → ℕ → Counters
counters_before course zero = NO_COUNTERS
counters_before course (suc k) = counters_after course k

-- the counters after the last slice
abbrev pub total : List Counters → Counters
total course = counters_before course (length course)

-- there is a slice, there are not too many, and the counters never fall
pub record IsCourse (course : List Counters) : Type 0 where
  pub some : 0 < length course
  pub few : length course ≤ MOST_SLICES
  pub rises : (k : ℕ) → k < length course → IsAtMost (counters_before course k) (counters_after course k)

-- the counters of an answer
abbrev pub counters_of : Slice → Counters
counters_of (More counters) = counters
counters_of (End counters) = counters

-- slice k of a course, which is an End exactly where it is the last
abbrev pub slice_at : List Counters → ℕ → Slice
slice_at course k = if suc k == length course then End (counters_after course k) else More (counters_after course k)

-- an answer is at most the total, and an End carries it
abbrev pub IsWithin : Counters → Slice → Type 0
IsWithin most (More counters) = IsAtMost counters most
IsWithin most (End counters) = counters ≡ most

-- Possible answers of slice k after counters of `before`, where this is the course: the course's own slice if `before`
-- is the course's too; at most the total, and an End where no slice may follow, if `before` is at most the total.
pub record Follows (course : List Counters) (k : ℕ) (before : Counters) (answer : Slice) : Type 0 where
  pub is_course : IsCourse course
  pub slice : k < length course → before ≡ counters_before course k → answer ≡ slice_at course k
  pub within : IsAtMost before (total course) → IsWithin (total course) answer
  pub ends : IsAtMost before (total course) → suc k ≡ MOST_SLICES → answer ≡ End (total course)

abbrev pub FollowsIfTold : Option (List Counters) → ℕ → Counters → Slice → Type 0
FollowsIfTold None k before answer = Unit {0}
FollowsIfTold (Some course) k before answer = Follows course k before answer

-- the meaning of an answer of slice k for a caller that has followed the course so far: there is a further slice, and
-- these are the counters before it, or the course has ended, and they are its total
abbrev pub GoesOn : List Counters → ℕ → Slice → Type 0
GoesOn course k (More counters) = (suc k < length course) × (counters ≡ counters_before course (suc k))
GoesOn course k (End counters) = (suc k ≡ length course) × (counters ≡ total course)

-- whoever hands each slice the counters of the one before follows the course to its end
abbrev pub SlicesGoOn : Type 0
SlicesGoOn =
    (course : List Counters) (k : ℕ) (before : Counters) (answer : Slice) → Follows course k before answer
    → k < length course → before ≡ counters_before course k → GoesOn course k answer
