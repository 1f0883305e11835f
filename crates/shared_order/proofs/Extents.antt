-- What the extent of heads tells of them.
use Rattle.std.proofs.Common.{◌≡◌, ◌<◌, ◌↔◌, sym, ◌∙◌, ap, subst, Bool, false, IsTrue, List, slice_get, Option, Some, None, ℤ, pos, ◌≤ℤ◌}
use Rattle.vt_fixed.specs.declared.limits.TheConstants.{GREATEST_LENGTH}
use Rattle.fq_model.specs.Keys.{Turn}
use Rattle.shared_order.specs.declared.extent.Extent.{Extent}
use Rattle.shared_order.specs.declared.search.Candidate.{Candidate}
use Rattle.shared_order.specs.Reach.{key_by_finish, IsInReach}
use Rattle.shared_order.specs.Heads.{HeadView, greatest_length, least_length}
use Rattle.shared_order.specs.Search.{AreInRange}
use Rattle.shared_order.specs.Extents.{extent_of, IsShortEnough, NoneIsReached, NoneIsSooner}
use Rattle.shared_order.proofs.Searching.{longest_low, longest_high, unreached, passed_over, nothing_there}

pub first_of : (x : Extent) (heads : List HeadView) → x ≡ extent_of heads → slice_get heads 0 ≡ x.first
first_of x heads e = sym (ap (λ (y : Extent). y.first) e)

pub longest_of : (x : Extent) (heads : List HeadView) → x ≡ extent_of heads → x.longest ≡ greatest_length heads
longest_of x heads e = ap (λ (y : Extent). y.longest) e

pub shortest_of : (x : Extent) (heads : List HeadView) → x ≡ extent_of heads → x.shortest ≡ least_length heads
shortest_of x heads e = ap (λ (y : Extent). y.shortest) e

pub short_enough : (x : Extent) (heads : List HeadView) → x ≡ extent_of heads → AreInRange heads → IsShortEnough x
short_enough x heads e r = record {
  low = subst (λ z. pos 0 ≤ℤ z) (sym (longest_of x heads e)) (longest_low heads);
  high = subst (λ z. z ≤ℤ GREATEST_LENGTH) (sym (longest_of x heads e)) (longest_high heads r);
}

-- ---- eligible heads

pub none_reached : (at : Turn) (x : Extent) (first : HeadView) (F L : ℤ) (result : Bool) → at.worker < at.workers → x.first ≡ Some first → F ≡ first.finish → L ≡ x.longest → (IsTrue result ↔ IsInReach at F L) → result ≡ false → NoneIsReached at x
none_reached at x first F L result lt some at_finish at_length tells fails = λ heads in_order e.
    unreached at heads first F L result lt in_order.sorted in_order.in_range (first_of x heads e ∙ some) at_finish (at_length ∙ longest_of x heads e) tells fails

-- ---- the soonest

pub none_sooner : (at : Turn) (x : Extent) (best : Candidate) (first : HeadView) (bound : ℤ) → x.first ≡ Some first → bound ≡ key_by_finish at first.finish x.longest → best.key ≤ℤ bound → NoneIsSooner at (Some best) x
none_sooner at x best first bound some bound_is le = λ heads r e.
    passed_over at best heads first bound r (first_of x heads e ∙ some) (bound_is ∙ ap (key_by_finish at first.finish) (longest_of x heads e)) le

pub none_at_all : (at : Turn) (x : Extent) (best : Option Candidate) → x.first ≡ None → NoneIsSooner at best x
none_at_all at x best none = λ heads r e. nothing_there at best heads (first_of x heads e ∙ none)
