-- The extent of heads in order, and what it tells of them.
use Rattle.std.specs.Prelude.{◌≡◌, List, slice_get, Option, Some, ℤ, pos, ◌≤ℤ◌}
use Rattle.std.specs.List.{All}
use Rattle.vt_fixed.specs.declared.limits.TheConstants.{GREATEST_LENGTH}
use Rattle.fq_model.specs.Keys.{Turn}
use Rattle.shared_order.specs.declared.extent.Extent.{Extent}
use Rattle.shared_order.specs.declared.search.Candidate.{Candidate}
use Rattle.shared_order.specs.Reach.{IsInReach}
use Rattle.shared_order.specs.Heads.{HeadView, greatest_length, least_length}
use Rattle.shared_order.specs.Search.{AreInRange, AreInOrder, IsReached, TakesSoonest}

abbrev pub extent_of : List HeadView → Extent
extent_of heads = record { first = slice_get heads 0; longest = greatest_length heads; shortest = least_length heads }

-- the greatest length is in its limits
pub record IsShortEnough (extent : Extent) : Type 0 where
  pub low : pos 0 ≤ℤ extent.longest
  pub high : extent.longest ≤ℤ GREATEST_LENGTH

-- of heads with this extent none is eligible
abbrev pub NoneIsReached : Turn → Extent → Type 0
NoneIsReached at extent =
    (heads : List HeadView) → AreInOrder heads → extent ≡ extent_of heads → All (λ h. ¬ IsReached at h) heads

-- of heads with this extent none is eligible that is at most so long
abbrev pub NoneSoLongIsReached : Turn → ℤ → Extent → Type 0
NoneSoLongIsReached at longest extent =
    (heads : List HeadView) → AreInOrder heads → extent ≡ extent_of heads
    → All (λ h. h.len ≤ℤ longest → ¬ IsReached at h) heads

-- of heads with this extent none becomes eligible sooner than the best of those before them
abbrev pub NoneIsSooner : Turn → Option Candidate → Extent → Type 0
NoneIsSooner at best extent =
    (heads : List HeadView) → AreInRange heads → extent ≡ extent_of heads → TakesSoonest at best heads best

-- a head that is so long and finishes with the first of the heads would not be eligible
pub record EndsBefore (at : Turn) (extent : Extent) (longest : ℤ) : Type 0 where
  pub first : HeadView
  pub first_is : extent.first ≡ Some first
  pub out_of_reach : ¬ IsInReach at first.finish longest
