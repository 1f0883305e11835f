-- The laws of an order of heads by finish: a head's start is not needed, and a bound on finishes from below with a
-- bound on lengths from above is a bound on eligibility and on eligible keys.
use Rattle.std.specs.Prelude.{ℕ, ◌+◌, ◌*◌, ◌<◌, ◌≡◌, ◌↔◌, ◌^◌, ℤ, pos, ◌+ℤ◌, ◌-ℤ◌, ◌≤ℤ◌}
use Rattle.vt_fixed.specs.declared.limits.TheConstants.{GREATEST_LENGTH}
use Rattle.fq_model.specs.declared.limits.TheConstants.{GREATEST_START}
use Rattle.fq_model.specs.Keys.{HeadKeys, Turn, finish, stagger, eligible_key, IsEligible}
use Rattle.shared_order.specs.Reach.{key_by_finish, IsInReach}

-- ---- the start is not needed

-- the eligible key is the finish less the length and the stagger
abbrev pub KeyIsFinishLess : Type 0
KeyIsFinishLess =
    (at : Turn) (k : HeadKeys) → eligible_key at k ≡ (finish k -ℤ k.len) -ℤ stagger at.policy k.len at.worker at.workers

-- the length and the stagger are rounded as one number
abbrev pub KeyIsByFinish : Type 0
KeyIsByFinish =
    (at : Turn) (k : HeadKeys) → at.worker < at.workers → pos 0 ≤ℤ k.len
    → eligible_key at k ≡ key_by_finish at (finish k) k.len

-- eligibility is a comparison of products
abbrev pub EligibleIsInReach : Type 0
EligibleIsInReach =
    (at : Turn) (k : HeadKeys) → at.worker < at.workers → pos 0 ≤ℤ k.len
    → IsEligible at k ↔ IsInReach at (finish k) k.len

-- ---- bounds

-- (F, L) bounds (G, M): the finish from below, and the length from above
pub record Bounds (F L G M : ℤ) : Type 0 where
  pub no_later : F ≤ℤ G
  pub no_shorter : M ≤ℤ L
  pub some_length : pos 0 ≤ℤ M

-- the key of the bound is at most the key
abbrev pub KeyIsBounded : Type 0
KeyIsBounded = (at : Turn) (F L G M : ℤ) → Bounds F L G M → key_by_finish at F L ≤ℤ key_by_finish at G M

-- where the bound is not in reach, nothing that it bounds is
abbrev pub ReachIsBounded : Type 0
ReachIsBounded =
    (at : Turn) (F L G M : ℤ) → at.worker < at.workers → Bounds F L G M → IsInReach at G M → IsInReach at F L

-- ---- the products fit

-- over the whole range of keys: at 32 bits for the workers, the two products of a comparison are below 2 ^ 127
abbrev pub ProductsFit : Type 0
ProductsFit =
    (i n ahead len : ℕ) → i < n → n < 2 ^ 32 → pos ahead ≤ℤ (GREATEST_START +ℤ GREATEST_LENGTH)
    → pos len ≤ℤ GREATEST_LENGTH
    → (n * ahead < 2 ^ 127) × ((n + i) * len < 2 ^ 127)
