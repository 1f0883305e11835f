-- When a fault may be answered, and how faults are counted.
use Rattle.std.specs.Prelude.{ℕ, ◌+◌, ◌-◌, ◌^◌, ◌≤◌, min, Result, Ok, Err, OnErr}

-- a count one further on, which stands still at the last number of 64 bits
abbrev pub next_count : ℕ → ℕ
next_count n = min (n + 1) (2 ^ 64 - 1)

-- the count rose, or stood at the last number already
abbrev pub Rose : ℕ → ℕ → Type 0
Rose before after = next_count before ≤ after

-- a count of faults never falls and fits 64 bits, and a call fails only where it rose
pub record HasCause {T E : Type 0} (before after : ℕ) (result : Result T E) : Type 0 where
  pub later : before ≤ after
  pub counted : after ≤ 2 ^ 64 - 1
  pub failed : OnErr result (Rose before after)

-- the count after a call that raises it exactly where it fails
abbrev pub faults_after : {T E : Type 0} → Result T E → ℕ → ℕ
faults_after (Ok x) before = before
faults_after (Err e) before = next_count before
