-- The search for an eligible head with a small estimate.
use Rattle.std.proofs.Common.{ℕ, ◌*◌, ◌<◌, ◌≤◌, ◌≡◌, ◌↔◌, min, arith, sym, ◌∙◌, ap, subst, Bool, false, IsTrue, List, [], ◌∷◌, ◌++◌, get_or, slice_get, slice_index_or, inr, Option, Some, None, is_some, IfSome, IfNone, ℤ, pos, negsuc, unsigned_abs, ◌≤ℤ◌, to_z, of_z, int_le}
use mir.Syntax.{w128}
use Rattle.std.specs.List.{All, Contains}
use Rattle.std.specs.Int.{int_min}
use Rattle.std.proofs.lemmas.Int.{ints, clamps}
use Rattle.std.proofs.lemmas.Nat.{mul-le, div-add-mod', mod_below}
use Rattle.std.proofs.lemmas.Bool.{false≢true}
use Rattle.std.proofs.lemmas.List.Elements.{All-append, All-same, All-contains}
use Rattle.vt_fixed.specs.declared.limits.TheConstants.{GREATEST_LENGTH}
use Rattle.vt_fixed.specs.Rounding.{length_of, cost_of}
use Rattle.vt_fixed.proofs.Bounds.{length_covers, length_high}
use Rattle.fq_model.specs.Limits.{IsWeight}
use Rattle.fq_model.specs.Keys.{Turn}
use Rattle.shared_order.specs.Reach.{IsInReach}
use Rattle.shared_order.specs.declared.extent.Extent.{Extent}
use Rattle.shared_order.specs.Heads.{HeadView, HeadBefore, IsSorted}
use Rattle.shared_order.specs.Extents.{extent_of, NoneSoLongIsReached, EndsBefore}
use Rattle.shared_order.specs.Search.{AreInRange, IsReached, IsSooner, IsFirstThat, IsLeast}
use Rattle.shared_order.specs.Outlook.{IsWeighed, IsSought, SomeIsSought, IsOutlookOn, IsLongestBelow}
use Rattle.shared_order.proofs.Reach.{reach_bounded}
use Rattle.shared_order.proofs.Pieces.{back_pairs, all_back, holds_middle}
use Rattle.shared_order.proofs.Searching.{first_least, longest_covers, reads_length}
use Rattle.shared_order.proofs.Extents.{first_of, longest_of, shortest_of}
use Rattle.shared_order.proofs.Ends.{least_covers}

-- ---- the greatest length

-- a length that stands for less than a cost is shorter than the cost is at weight 1
short_bound : (len w below : ℕ) → 1 ≤ w → cost_of len w < below → len < below * 1048576
unfolding cost_of
short_bound len w below low less =
    omega (arith, div-add-mod' (len * w) 1048576, mod_below (len * w) 1048576 (omega arith), less, mul-le len 1 len w (omega arith) low)

capped : (len below : ℕ) → len ≤ 1048576000000000 → len < below * 1048576 → len ≤ length_of (min below 1000000000) 1
capped len below high short = omega (arith, length_covers (min below 1000000000) 1 (omega arith), high, short)

bounds_short : (len : ℤ) (w below : ℕ) → pos 0 ≤ℤ len → len ≤ℤ GREATEST_LENGTH → 1 ≤ w → cost_of (unsigned_abs len) w < below → len ≤ℤ pos (length_of (min below 1000000000) 1)
bounds_short (pos len) w below low high weighs less = omega (arith, ints, capped len below (omega (arith, ints, high)) (short_bound len w below weighs less))
bounds_short (negsuc len) w below low high weighs less = absurd (omega (arith, ints, low))

longest_is : (below : ℕ) → IsLongestBelow below (pos (length_of (min below 1000000000) 1))
longest_is below = record {
  low = omega (arith, ints);
  high = omega (arith, ints, length_high (min below 1000000000) 1 (omega arith) (omega arith));
  bounds = λ len weight low high weighs less. bounds_short len weight below low high weighs less;
}

-- as it is handed on
pub handed_on : (below : ℕ) (z : ℤ) → IsLongestBelow below z → IsLongestBelow below (to_z w128 (of_z w128 z))
handed_on below z l = subst (IsLongestBelow below) (sym (reads_length z l.low l.high)) l

pub longest_read_back : (below : ℕ) (z : ℤ) → z ≡ pos (length_of (min below 1000000000) 1) → IsLongestBelow below (to_z w128 (of_z w128 z))
longest_read_back below z is = handed_on below z (subst (IsLongestBelow below) (sym is) (longest_is below))

-- ---- where a block tells enough

module _ (at : Turn) (weights : List ℕ) (below : ℕ) (longest : ℤ) (lt : at.worker < at.workers) (l : IsLongestBelow below longest) (weigh : All IsWeight weights) where
  -- a head that is sought is no longer
  pub sought_bound : (h : HeadView) → pos 0 ≤ℤ h.len → h.len ≤ℤ GREATEST_LENGTH → IsWeighed weights h → IsSought at weights below h → h.len ≤ℤ longest
  sought_bound h low high known s = l.bounds h.len (slice_index_or weights h.tenant 0) low high (weigh h.tenant 0 known).0 s.1

  -- no head that comes later than one out of reach is sought
  not_sought : (F : ℤ) (h : HeadView) → ¬ IsInReach at F longest → F ≤ℤ h.finish → pos 0 ≤ℤ h.len → h.len ≤ℤ GREATEST_LENGTH → IsWeighed weights h → ¬ IsSought at weights below h
  not_sought F h out later low high known s =
      out (reach_bounded at F longest h.finish h.len lt (record { no_later = later; no_shorter = sought_bound h low high known s; some_length = low }) s.0)

  -- nor is one of a part whose extent is out of reach, nor one after it
  pub none_later : (heads front part rest : List HeadView) (x : Extent) → heads ≡ front ++ (part ++ rest) → x ≡ extent_of part → IsSorted heads → AreInRange heads → All (IsWeighed weights) heads → EndsBefore at x longest → All (λ h. ¬ IsSought at weights below h) front → All (λ h. ¬ IsSought at weights below h) heads
  none_later heads front part rest x cut is sorted in_range known ends so_far =
      let first = ends.first in
      let from : List HeadView = part ++ rest in
      let least : All (λ (h : HeadView). first.finish ≤ℤ h.finish) from = first_least from first (back_pairs HeadBefore front from (subst IsSorted cut sorted)) (first_there part rest first (first_of x part is ∙ ends.first_is)) in
      let ranges : AreInRange from = all_back (λ (h : HeadView). (pos 0 ≤ℤ h.len) × (h.len ≤ℤ GREATEST_LENGTH)) front from (subst AreInRange cut in_range) in
      let tenants : All (IsWeighed weights) from = all_back (IsWeighed weights) front from (subst (All (IsWeighed weights)) cut known) in
      All-same (λ h. ¬ IsSought at weights below h) heads (front ++ from) cut (All-append (λ h. ¬ IsSought at weights below h) front from so_far (λ k d inside.
      not_sought first.finish (get_or from k d) ends.out_of_reach (least k d inside) (ranges k d inside).0 (ranges k d inside).1 (tenants k d inside)))
    where
      first_there : (xs ys : List HeadView) (first : HeadView) → slice_get xs 0 ≡ Some first → slice_get (xs ++ ys) 0 ≡ Some first
      first_there [] ys first is = absurd (let none : None ≡ Some first = is in cc)
      first_there (x ∷ xs) ys first is = is

  -- none of a part in which none so long is eligible
  pub none_in_part : (block : List HeadView) → AreInRange block → All (IsWeighed weights) block → All (λ h. h.len ≤ℤ longest → ¬ IsReached at h) block → All (λ h. ¬ IsSought at weights below h) block
  none_in_part block in_range known out = λ k d inside s.
      out k d inside (sought_bound (get_or block k d) (in_range k d inside).0 (in_range k d inside).1 (known k d inside) s) s.0

-- where the first finish, with the lesser of a length and of the longest, is out of reach
pub none_so_long : (at : Turn) (x : Extent) (first : HeadView) (longest F L : ℤ) (result : Bool) → at.worker < at.workers → x.first ≡ Some first → F ≡ first.finish → L ≡ int_min longest x.longest → (IsTrue result ↔ IsInReach at F L) → result ≡ false → NoneSoLongIsReached at longest x
none_so_long at x first longest F L result lt some at_finish at_length tells fails = λ heads in_order e k d within short reached.
    let h : HeadView = get_or heads k d in
    let covers : h.len ≤ℤ x.longest = subst (λ z. h.len ≤ℤ z) (sym (longest_of x heads e)) (longest_covers heads k d within) in
    let bound : IsInReach at first.finish (int_min longest x.longest) = reach_bounded at first.finish (int_min longest x.longest) h.finish h.len lt (record {
      no_later = first_least heads first in_order.sorted (first_of x heads e ∙ some) k d within;
      no_shorter = at_most h.len longest x.longest short covers;
      some_length = (in_order.in_range k d within).0;
    }) reached in
    let same : IsInReach at F L = subst (λ z. IsInReach at F z) (sym at_length) (subst (λ z. IsInReach at z (int_min longest x.longest)) (sym at_finish) bound) in
    false≢true (sym fails ∙ tells.1 same)
  where
    at_most : (x y z : ℤ) → x ≤ℤ y → x ≤ℤ z → x ≤ℤ int_min y z
    at_most x y z p q = omega (arith, ints, clamps, p, q)

-- where the least length is above the longest that is sought
pub all_longer : (at : Turn) (x : Extent) (longest : ℤ) → to_z w128 (of_z w128 x.shortest) ≡ x.shortest → to_z w128 (of_z w128 longest) ≡ longest → int_le (to_z w128 (of_z w128 x.shortest)) (to_z w128 (of_z w128 longest)) ≡ false → NoneSoLongIsReached at longest x
all_longer at x longest read bound fails = λ heads in_order e k d within short reached.
    let h : HeadView = get_or heads k d in
    let covers : x.shortest ≤ℤ h.len = subst (λ z. z ≤ℤ h.len) (sym (shortest_of x heads e)) (least_covers heads k d within) in
    let longer : int_le x.shortest longest ≡ false = ap (λ z. int_le z longest) (sym read) ∙ (ap (int_le (to_z w128 (of_z w128 x.shortest))) (sym bound) ∙ fails) in
    too_long x.shortest longest h.len longer covers short
  where
    too_long : (x y z : ℤ) → int_le x y ≡ false → x ≤ℤ z → z ≤ℤ y → ⊥
    too_long x y z off p q = omega (arith, ints, off, p, q)

-- the lesser length, and as it is read
pub min_low : (a b : ℤ) → pos 0 ≤ℤ a → pos 0 ≤ℤ b → pos 0 ≤ℤ int_min a b
min_low a b p q = omega (arith, ints, clamps, p, q)

pub min_high : (a b : ℤ) → a ≤ℤ GREATEST_LENGTH → int_min a b ≤ℤ GREATEST_LENGTH
min_high a b p = omega (arith, ints, clamps, p)

pub least_is : (a b z : ℤ) → pos 0 ≤ℤ a → a ≤ℤ GREATEST_LENGTH → pos 0 ≤ℤ b → b ≤ℤ GREATEST_LENGTH → z ≡ int_min (to_z w128 (of_z w128 a)) (to_z w128 (of_z w128 b)) → to_z w128 (of_z w128 z) ≡ int_min a b
least_is a b z low high b_low b_high is =
    let plain : z ≡ int_min a b = is ∙ (ap (λ x. int_min x (to_z w128 (of_z w128 b))) (reads_length a low high) ∙ ap (int_min a) (reads_length b b_low b_high)) in
    reads_length z (subst (λ x. pos 0 ≤ℤ x) (sym plain) (min_low a b low b_low)) (subst (λ x. x ≤ℤ GREATEST_LENGTH) (sym plain) (min_high a b high)) ∙ plain

-- ---- what is found

none_sought : (at : Turn) (heads : List HeadView) (weights : List ℕ) (below : ℕ) → All (λ h. ¬ IsSought at weights below h) heads → ¬ SomeIsSought at heads weights below
none_sought at heads weights below none s = All-contains (λ h. ¬ IsSought at weights below h) heads s.0 none s.1.0 s.1.1

pub found_or_not : (at : Turn) (heads : List HeadView) (weights : List ℕ) (below : ℕ) (found : Option HeadView) (r : Bool) → r ≡ is_some found → IfSome found (IsFirstThat (IsSought at weights below) heads) → IfNone found (All (λ h. ¬ IsSought at weights below h) heads) → IsTrue r ↔ SomeIsSought at heads weights below
found_or_not at heads weights below (Some h) r is first none = (
  λ t. (h, (subst (λ (xs : List HeadView). Contains xs h) (sym first.stands) (holds_middle first.front h first.back), first.passes)),
  λ s. is,
)
found_or_not at heads weights below None r is first none =
    (λ t. absurd (false≢true (sym is ∙ t)), λ s. absurd (none_sought at heads weights below none s))

-- where no head is eligible, the choice is not, and no head is sought
pub none_eligible : (at : Turn) (heads : List HeadView) (weights : List ℕ) (below : ℕ) (h : HeadView) (t : ℕ) → h.tenant ≡ t → All (λ x. ¬ IsReached at x) heads → IsLeast (IsSooner at) heads h → IsOutlookOn at heads weights below (record { tenant = t; is_eligible = false; has_smaller = false })
none_eligible at heads weights below h t is none least =
    let there : Contains heads h = subst (λ (xs : List HeadView). Contains xs h) (sym least.stands) (holds_middle least.front h least.back) in
    record {
      head = h;
      tenant_is = is;
      chosen = inr (none, least);
      eligible = (λ x. absurd (false≢true x), λ reached. absurd (All-contains (λ x. ¬ IsReached at x) heads h none there reached));
      smaller = (λ x. absurd (false≢true x), λ s. absurd (All-contains (λ x. ¬ IsReached at x) heads s.0 none s.1.0 s.1.1.0));
    }
