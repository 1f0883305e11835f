-- The heads that are looked for among heads in order.
use Rattle.std.specs.Prelude.{◌≡◌, List, [], ◌∷◌, ◌++◌, Option, Some, None, ℤ, pos, ◌+ℤ◌, ◌<ℤ◌, ◌≤ℤ◌, ◌⊎◌}
use Rattle.std.specs.List.{All}
use Rattle.vt_fixed.specs.declared.limits.TheConstants.{GREATEST_LENGTH}
use Rattle.fq_model.specs.declared.limits.TheConstants.{GREATEST_START}
use Rattle.fq_model.specs.Keys.{Turn}
use Rattle.shared_order.specs.Reach.{key_by_finish, IsInReach}
use Rattle.shared_order.specs.Heads.{HeadView, HeadBefore, IsSorted}
use Rattle.shared_order.specs.declared.search.Candidate.{Candidate}

-- each length is in its limits
abbrev pub AreInRange : List HeadView → Type 0
AreInRange heads = All (λ h. (pos 0 ≤ℤ h.len) × (h.len ≤ℤ GREATEST_LENGTH)) heads

-- heads in order, with lengths in their range
pub record AreInOrder (heads : List HeadView) : Type 0 where
  pub sorted : IsSorted heads
  pub in_range : AreInRange heads

-- a finish and a length, of one head or of two, in their limits
pub record AreInLimits (finish len : ℤ) : Type 0 where
  pub finish_low : pos 0 ≤ℤ finish
  pub finish_high : finish ≤ℤ (GREATEST_START +ℤ GREATEST_LENGTH)
  pub len_low : pos 0 ≤ℤ len
  pub len_high : len ≤ℤ GREATEST_LENGTH

-- the head is eligible
abbrev pub IsReached : Turn → HeadView → Type 0
IsReached at h = IsInReach at h.finish h.len

-- its eligible key
abbrev pub key_of : Turn → HeadView → ℤ
key_of at h = key_by_finish at h.finish h.len

-- by eligible key, then by finish, then by number
abbrev pub IsSooner : Turn → HeadView → HeadView → Type 0
IsSooner at a b = (key_of at a <ℤ key_of at b) ⊎ ((key_of at a ≡ key_of at b) × HeadBefore a b)

-- the head stands among these and passes, and no earlier one does
pub record IsFirstThat (Passes : HeadView → Type 0) (heads : List HeadView) (h : HeadView) : Type 0 where
  pub front : List HeadView
  pub back : List HeadView
  pub stands : heads ≡ front ++ h ∷ back
  pub passes : Passes h
  pub none_earlier : All (λ other. ¬ Passes other) front

-- the head stands among these and comes before all others
pub record IsLeast (Before : HeadView → HeadView → Type 0) (heads : List HeadView) (h : HeadView) : Type 0 where
  pub front : List HeadView
  pub back : List HeadView
  pub stands : heads ≡ front ++ h ∷ back
  pub before_front : All (Before h) front
  pub before_back : All (Before h) back

-- the soonest of these heads with its key, if there is one
abbrev pub IsSoonest : Turn → List HeadView → Option Candidate → Type 0
IsSoonest at heads None = heads ≡ []
IsSoonest at heads (Some best) = IsLeast (IsSooner at) heads best.head × (best.key ≡ key_of at best.head)

-- the soonest of these and of earlier heads, where they are in order
abbrev pub TakesSoonest : Turn → Option Candidate → List HeadView → Option Candidate → Type 0
TakesSoonest at older heads newer =
    (earlier : List HeadView) → IsSorted (earlier ++ heads) → IsSoonest at earlier older
    → IsSoonest at (earlier ++ heads) newer
