-- The numbers that an estimator keeps of the completed requests, by the place of each tenant and kind.
use Rattle.std.specs.Prelude.{ℕ, ◌+◌, ◌*◌, ◌<◌, ◌≤◌, ◌≡◌, List, [], take, length, slice_index, slice_index_or, All}
use Rattle.circular_buffer.specs.Buffer.{Buffer, buffer}
use Rattle.vt_fixed.specs.declared.limits.TheConstants.{GREATEST_COST}
use Rattle.fq_model.specs.Charge.{Completed, completed_costs}
use Rattle.fq_laws.specs.Changes.{greatest_cost_from}

-- of each tenant and kind, the greatest decayed cost
abbrev pub HasGreatest : ℕ → ℕ → ℕ → List ℕ → List Completed → Type 0
HasGreatest tenants kinds initial greatest cs =
    (t k : ℕ) → t < tenants → k < kinds →
    slice_index greatest (t * kinds + k) ≡ greatest_cost_from initial (completed_costs cs t k)

-- of each tenant and kind, the last eight costs, the newest first
abbrev pub HasRecent : ℕ → ℕ → List (Buffer ℕ) → List Completed → Type 0
HasRecent tenants kinds rings cs =
    (t k : ℕ) → t < tenants → k < kinds →
    (slice_index_or rings (t * kinds + k) (buffer [] 8)).items ≡ take 8 (completed_costs cs t k)

-- room for eight costs, each of them in range
pub record IsRing (ring : Buffer ℕ) : Type 0 where
  pub capacity : ring.capacity ≡ 8
  pub few : length ring.items ≤ 8
  pub costs : All (λ x. x ≤ GREATEST_COST) ring.items
