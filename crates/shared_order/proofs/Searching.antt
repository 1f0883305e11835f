-- Looking among heads in order.
use Rattle.std.proofs.Common.{ℕ, suc, ◌+◌, ◌<◌, ◌≡◌, ◌↔◌, inl, inr, arith, refl, sym, ◌∙◌, ap, subst, Bool, true, false, IsTrue, List, [], ◌∷◌, ◌++◌, length, take, drop, get_or, slice_get, append_assoc, append-nil, Option, Some, None, is_some, IfNone, ℤ, pos, ◌-ℤ◌, ◌≤ℤ◌, ◌<ℤ◌, to_z, of_z, FitsSigned}
use mir.Syntax.{w128}
use lib.Signed.{lt_z, le_z}
use Rattle.std.specs.List.{All, Contains}
use Rattle.std.specs.Int.{int_max}
use Rattle.std.proofs.lemmas.Int.{ints, clamps, by_lt_z, to_z-of_z}
use Rattle.std.proofs.lemmas.Bool.{false≢true}
use Rattle.std.proofs.lemmas.List.{drop_more, take-append-drop}
use Rattle.std.proofs.lemmas.List.Elements.{All-nil, All-cons, All-append, All-weaker, All-tail, All-same}
use Rattle.vt_fixed.specs.declared.limits.TheConstants.{GREATEST_LENGTH}
use Rattle.tag_rules.specs.Keys.{IsInRange}
use Rattle.fq_model.specs.Keys.{Turn}
use Rattle.shared_order.specs.Reach.{key_by_finish, IsInReach}
use Rattle.shared_order.specs.Laws.{Bounds}
use Rattle.shared_order.proofs.Reach.{key_bounded, reach_bounded}
use Rattle.shared_order.specs.Heads.{HeadView, HeadBefore, IsSorted, greatest_length}
use Rattle.shared_order.specs.Blocks.{all_heads}
use Rattle.shared_order.specs.Search.{AreInRange, AreInLimits, IsReached, key_of, IsSooner, IsFirstThat, IsLeast, IsSoonest, TakesSoonest}
use Rattle.shared_order.specs.declared.search.Candidate.{Candidate}
use Rattle.shared_order.proofs.Pieces.{front_pairs, back_pairs, across_pairs, all_middle, holds_middle, cut_so_far, blocks_more, blocks_cut}

-- ---- a number that fits, read back

pub reads_finish : (finish len : ℤ) → IsInRange (finish -ℤ len) len → to_z w128 (of_z w128 finish) ≡ finish
reads_finish finish len r = omega (arith, ints, r.start_low, r.start_high, r.len_low, r.len_high)

pub reads_length : (len : ℤ) → pos 0 ≤ℤ len → len ≤ℤ GREATEST_LENGTH → to_z w128 (of_z w128 len) ≡ len
reads_length len low high = omega (arith, ints, low, high)

-- ---- the bound of a block

max_left : (x y : ℤ) → x ≤ℤ int_max x y
max_left x y = omega (arith, ints, clamps)

max_right : (x y z : ℤ) → z ≤ℤ y → z ≤ℤ int_max x y
max_right x y z h = omega (arith, ints, clamps)

max_least : (x y z : ℤ) → x ≤ℤ z → y ≤ℤ z → int_max x y ≤ℤ z
max_least x y z h k = omega (arith, ints, clamps)

pub longest_low : (heads : List HeadView) → pos 0 ≤ℤ greatest_length heads
longest_low [] = omega (arith, ints)
longest_low (h ∷ heads) = max_right h.len (greatest_length heads) (pos 0) (longest_low heads)

pub longest_high : (heads : List HeadView) → AreInRange heads → greatest_length heads ≤ℤ GREATEST_LENGTH
longest_high [] r = omega (arith, ints)
longest_high (h ∷ heads) r = max_least h.len (greatest_length heads) GREATEST_LENGTH (r 0 h (omega arith)).1 (longest_high heads (All-tail (λ (k : HeadView). (pos 0 ≤ℤ k.len) × (k.len ≤ℤ GREATEST_LENGTH)) h heads r))

pub longest_covers : (heads : List HeadView) → All (λ (h : HeadView). h.len ≤ℤ greatest_length heads) heads
longest_covers [] = All-nil (λ (h : HeadView). h.len ≤ℤ pos 0)
longest_covers (h ∷ heads) =
    All-cons (λ (k : HeadView). k.len ≤ℤ int_max h.len (greatest_length heads)) h heads (max_left h.len (greatest_length heads)) (All-weaker (λ (k : HeadView). k.len ≤ℤ greatest_length heads) (λ (k : HeadView). k.len ≤ℤ int_max h.len (greatest_length heads)) (λ k le. max_right h.len (greatest_length heads) k.len le) heads (longest_covers heads))

no_later : (x y : HeadView) → HeadBefore x y → x.finish ≤ℤ y.finish
no_later x y (inl h) = omega (arith, ints, h)
no_later x y (inr h) = omega (arith, ints, h.0)

-- the preconditions of a test and a key: of a head that was read, and of the finish of one and another length
pub head_limits : (finish len : ℤ) → IsInRange (finish -ℤ len) len → AreInLimits (to_z w128 (of_z w128 finish)) (to_z w128 (of_z w128 len))
head_limits finish len r = rw (reads_finish finish len r, reads_length len r.len_low r.len_high) (record {
  finish_low = omega (arith, ints, r.start_low, r.len_low);
  finish_high = omega (arith, ints, r.start_high, r.len_high);
  len_low = r.len_low;
  len_high = r.len_high;
})

pub bound_limits : (finish len z : ℤ) → IsInRange (finish -ℤ len) len → pos 0 ≤ℤ z → z ≤ℤ GREATEST_LENGTH → AreInLimits (to_z w128 (of_z w128 finish)) z
bound_limits finish len z r low high = rw (reads_finish finish len r) (record {
  finish_low = omega (arith, ints, r.start_low, r.len_low);
  finish_high = omega (arith, ints, r.start_high, r.len_high);
  len_low = low;
  len_high = high;
})

pub first_least : (heads : List HeadView) (first : HeadView) → IsSorted heads → slice_get heads 0 ≡ Some first → All (λ (h : HeadView). first.finish ≤ℤ h.finish) heads
first_least [] first sorted is = absurd (let none : None ≡ Some first = is in cc)
first_least (x ∷ heads) first sorted is =
    let same : Some x ≡ Some first = is in
    let e : x ≡ first = cc in
    let later : All (HeadBefore x) heads = λ k d within. sorted 0 (suc k) d (omega arith) (omega (arith, within)) in
    subst (λ (f : HeadView). All (λ (h : HeadView). f.finish ≤ℤ h.finish) (x ∷ heads)) e (All-cons (λ (h : HeadView). x.finish ≤ℤ h.finish) x heads (omega (arith, ints)) (All-weaker (HeadBefore x) (λ (h : HeadView). x.finish ≤ℤ h.finish) (no_later x) heads later))

-- the first finish and the greatest length bound each head of a block
bounds : (heads : List HeadView) (first : HeadView) → IsSorted heads → AreInRange heads → slice_get heads 0 ≡ Some first → All (λ (h : HeadView). Bounds first.finish (greatest_length heads) h.finish h.len) heads
bounds heads first sorted r is = λ k d within.
    record { no_later = first_least heads first sorted is k d within; no_shorter = longest_covers heads k d within; some_length = (r k d within).0 }

pub unreached : (at : Turn) (heads : List HeadView) (first : HeadView) (F L : ℤ) (result : Bool) → at.worker < at.workers → IsSorted heads → AreInRange heads → slice_get heads 0 ≡ Some first → F ≡ first.finish → L ≡ greatest_length heads → (IsTrue result ↔ IsInReach at F L) → result ≡ false → All (λ h. ¬ IsReached at h) heads
unreached at heads first F L result lt sorted r is at_finish at_length h fails = λ k d within reached.
    let b = bounds heads first sorted r is k d within in
    let bound : IsInReach at first.finish (greatest_length heads) = reach_bounded at first.finish (greatest_length heads) (get_or heads k d).finish (get_or heads k d).len lt b reached in
    let same : IsInReach at F L = subst (λ z. IsInReach at F z) (sym at_length) (subst (λ z. IsInReach at z (greatest_length heads)) (sym at_finish) bound) in
    false≢true (sym fails ∙ h.1 same)

pub none_there : (heads : List HeadView) (P : HeadView → Type 0) → slice_get heads 0 ≡ None → All P heads
none_there [] P is = All-nil P
none_there (h ∷ heads) P is = absurd (let some : Some h ≡ None = is in cc)

-- ---- the first that is reached

-- it stands at a place before which none is
pub first_at : (P : HeadView → Type 0) (heads : List HeadView) (i : ℕ) (h : HeadView) → i < length heads → h ≡ get_or heads i h → P h → All (λ x. ¬ P x) (take i heads) → IsFirstThat P heads h
first_at P heads i h within is p none = record {
  front = take i heads;
  back = drop (i + 1) heads;
  stands = sym (take-append-drop i heads) ∙ (ap (λ t. take i heads ++ t) (drop_more heads i h within) ∙ ap (λ (x : HeadView). take i heads ++ x ∷ drop (i + 1) heads) (sym is));
  passes = p;
  none_earlier = none;
}

-- it is in a part before which none is
pub first_in_part : (P : HeadView → Type 0) (heads front part rest : List HeadView) (h : HeadView) → heads ≡ front ++ (part ++ rest) → All (λ x. ¬ P x) front → IsFirstThat P part h → IsFirstThat P heads h
first_in_part P heads front part rest h cut none f = record {
  front = front ++ f.front;
  back = f.back ++ rest;
  stands = cut ∙ (ap (λ b. front ++ (b ++ rest)) f.stands ∙ simp append_assoc);
  passes = f.passes;
  none_earlier = All-append (λ x. ¬ P x) front f.front none f.none_earlier;
}

-- in a block
pub first_in_block : (P : HeadView → Type 0) (blocks : List (List HeadView)) (i : ℕ) (block : List HeadView) (h : HeadView) → i < length blocks → block ≡ get_or blocks i block → All (λ x. ¬ P x) (all_heads (take i blocks)) → IsFirstThat P block h → IsFirstThat P (all_heads blocks) h
first_in_block P blocks i block h within is = first_in_part P _ _ block _ h (blocks_cut blocks i block within is)

-- a block in which none is
pub none_in_more : (P : HeadView → Type 0) (blocks : List (List HeadView)) (i : ℕ) (block : List HeadView) → i < length blocks → block ≡ get_or blocks i block → All P (all_heads (take i blocks)) → All P block → All P (all_heads (take (i + 1) blocks))
none_in_more P blocks i block within is none here =
    All-same P (all_heads (take (i + 1) blocks)) (all_heads (take i blocks) ++ block) (blocks_more blocks i block within is) (All-append P (all_heads (take i blocks)) block none here)

-- ---- the soonest

-- the least stands among them
least_there : (Before : HeadView → HeadView → Type 0) (heads : List HeadView) (h : HeadView) → IsLeast Before heads h → Contains heads h
least_there Before heads h l = subst (λ xs. Contains xs h) (sym l.stands) (holds_middle l.front h l.back)

-- later heads of no lesser key leave the best
pub stays : (at : Turn) (best : Candidate) (heads : List HeadView) → All (λ h. best.key ≤ℤ key_of at h) heads → TakesSoonest at (Some best) heads (Some best)
stays at best heads no_less = λ earlier sorted is.
    let l : IsLeast (IsSooner at) earlier best.head = is.0 in
    let after : All (HeadBefore best.head) heads = across_pairs HeadBefore earlier heads best.head sorted (least_there (IsSooner at) earlier best.head l) in (
      record {
        front = l.front;
        back = l.back ++ heads;
        stands = ap (λ e. e ++ heads) l.stands ∙ simp append_assoc;
        before_front = l.before_front;
        before_back = All-append (IsSooner at best.head) l.back heads l.before_back (λ k d within. sooner at best.head (get_or heads k d) (subst (λ z. z ≤ℤ key_of at (get_or heads k d)) is.1 (no_less k d within)) (after k d within));
      },
      is.1,
    )
  where
    sooner : (at : Turn) (x y : HeadView) → key_of at x ≤ℤ key_of at y → HeadBefore x y → IsSooner at x y
    sooner at x y le before = by_lt_z (key_of at x) (key_of at y) (λ lt. inl lt) (λ ge. inr (omega (arith, ints, le, ge), before))

-- a later head of a lesser key is the soonest
pub taken : (at : Turn) (best : Candidate) (next : Candidate) → next.key ≡ key_of at next.head → next.key <ℤ best.key → TakesSoonest at (Some best) (next.head ∷ []) (Some next)
taken at best next key_is less = λ earlier sorted is.
    let l : IsLeast (IsSooner at) earlier best.head = is.0 in
    let lesser : key_of at next.head <ℤ key_of at best.head = subst (λ z. z <ℤ key_of at best.head) key_is (subst (λ z. next.key <ℤ z) is.1 less) in
    let over = λ (x : HeadView). λ (s : IsSooner at best.head x). before_too at next.head best.head x lesser s in (
      record {
        front = earlier;
        back = [];
        stands = refl;
        before_front = All-same (IsSooner at next.head) earlier (l.front ++ best.head ∷ l.back) l.stands (all_middle (IsSooner at next.head) l.front best.head l.back (All-weaker (IsSooner at best.head) (IsSooner at next.head) over l.front l.before_front) (inl lesser) (All-weaker (IsSooner at best.head) (IsSooner at next.head) over l.back l.before_back));
        before_back = All-nil (IsSooner at next.head);
      },
      key_is,
    )
  where
    before_too : (at : Turn) (n b x : HeadView) → key_of at n <ℤ key_of at b → IsSooner at b x → IsSooner at n x
    before_too at n b x less (inl h) = inl (omega (arith, ints, less, h))
    before_too at n b x less (inr h) = inl (omega (arith, ints, less, h.0))

-- the first head of all is the soonest so far
pub begun : (at : Turn) (next : Candidate) → next.key ≡ key_of at next.head → TakesSoonest at None (next.head ∷ []) (Some next)
begun at next key_is = λ earlier sorted is. (
  record {
    front = [];
    back = [];
    stands = ap (λ e. e ++ next.head ∷ []) is;
    before_front = All-nil (IsSooner at next.head);
    before_back = All-nil (IsSooner at next.head);
  },
  key_is,
)

pub takes_none : (at : Turn) (older : Option Candidate) → TakesSoonest at older [] older
takes_none at older = λ earlier sorted is. subst (λ e. IsSoonest at e older) (sym (append-nil earlier)) is

-- heads and then more heads
pub takes_both : (at : Turn) (older between newer : Option Candidate) (xs ys : List HeadView) → TakesSoonest at older xs between → TakesSoonest at between ys newer → TakesSoonest at older (xs ++ ys) newer
takes_both at older between newer xs ys h k = λ earlier sorted is.
    let joined : earlier ++ (xs ++ ys) ≡ (earlier ++ xs) ++ ys = sym (append_assoc earlier xs ys) in
    let sorted_both : IsSorted ((earlier ++ xs) ++ ys) = subst IsSorted joined sorted in
    subst (λ e. IsSoonest at e newer) (sym joined) (k (earlier ++ xs) sorted_both (h earlier (front_pairs HeadBefore (earlier ++ xs) ys sorted_both) is))

-- a block whose bound has no lesser key is passed over
pub passed_over : (at : Turn) (best : Candidate) (heads : List HeadView) (first : HeadView) (bound : ℤ) → AreInRange heads → slice_get heads 0 ≡ Some first → bound ≡ key_by_finish at first.finish (greatest_length heads) → best.key ≤ℤ bound → TakesSoonest at (Some best) heads (Some best)
passed_over at best heads first bound r is bound_is le = λ earlier sorted older.
    let in_order : IsSorted heads = back_pairs HeadBefore earlier heads sorted in
    let no_less : All (λ h. best.key ≤ℤ key_of at h) heads = λ k d within.
    let b = bounds heads first in_order r is k d within in
    le_trans best.key (key_by_finish at first.finish (greatest_length heads)) (key_of at (get_or heads k d)) (subst (λ z. best.key ≤ℤ z) bound_is le) (key_bounded at first.finish (greatest_length heads) (get_or heads k d).finish (get_or heads k d).len b) in
    stays at best heads no_less earlier sorted older
  where
    le_trans : (x y z : ℤ) → x ≤ℤ y → y ≤ℤ z → x ≤ℤ z
    le_trans x y z h k = omega (arith, ints)

pub nothing_there : (at : Turn) (older : Option Candidate) (heads : List HeadView) → slice_get heads 0 ≡ None → TakesSoonest at older heads older
nothing_there at older [] is = takes_none at older
nothing_there at older (h ∷ heads) is = absurd (let some : Some h ≡ None = is in cc)

-- a part more
pub soonest_part : (at : Turn) (heads front part rest : List HeadView) (older newer : Option Candidate) → heads ≡ front ++ (part ++ rest) → IsSorted heads → IsSoonest at front older → TakesSoonest at older part newer → IsSoonest at (front ++ part) newer
soonest_part at heads front part rest older newer cut sorted so_far takes = takes front (cut_so_far HeadBefore heads front part rest cut sorted) so_far

pub soonest_found : (at : Turn) (heads : List HeadView) (found : Option Candidate) (best : Candidate) → found ≡ Some best → IsSoonest at heads found → IsLeast (IsSooner at) heads best.head
soonest_found at heads found best is h = (subst (λ o. IsSoonest at heads o) is h).0

-- ---- a test and a key of a head that was read

pub reach_read : (at : Turn) (finish len : ℤ) (result : Bool) → IsInRange (finish -ℤ len) len → (IsTrue result ↔ IsInReach at (to_z w128 (of_z w128 finish)) (to_z w128 (of_z w128 len))) → IsTrue result ↔ IsInReach at finish len
reach_read at finish len result r h = subst (λ z. IsTrue result ↔ IsInReach at finish z) (reads_length len r.len_low r.len_high) (subst (λ z. IsTrue result ↔ IsInReach at z (to_z w128 (of_z w128 len))) (reads_finish finish len r) h)

pub key_read : (at : Turn) (finish len key : ℤ) → IsInRange (finish -ℤ len) len → key ≡ key_by_finish at (to_z w128 (of_z w128 finish)) (to_z w128 (of_z w128 len)) → key ≡ key_by_finish at finish len
key_read at finish len key r h = subst (λ z. key ≡ key_by_finish at finish z) (reads_length len r.len_low r.len_high) (subst (λ z. key ≡ key_by_finish at z (to_z w128 (of_z w128 len))) (reads_finish finish len r) h)

pub not_less : (x y : ℤ) → FitsSigned w128 x → FitsSigned w128 y → lt_z (to_z w128 (of_z w128 x)) (to_z w128 (of_z w128 y)) ≡ false → y ≤ℤ x
not_less x y f g h = let plain : lt_z x y ≡ false = rw (to_z-of_z w128 x f, to_z-of_z w128 y g) at h in grind (arith, ints)

pub is_le : (x y : ℤ) → FitsSigned w128 x → FitsSigned w128 y → le_z (to_z w128 (of_z w128 x)) (to_z w128 (of_z w128 y)) ≡ true → x ≤ℤ y
is_le x y f g h = let plain : le_z x y ≡ true = rw (to_z-of_z w128 x f, to_z-of_z w128 y g) at h in grind (arith, ints)

pub is_more : (x y : ℤ) → FitsSigned w128 x → FitsSigned w128 y → le_z (to_z w128 (of_z w128 x)) (to_z w128 (of_z w128 y)) ≡ false → y <ℤ x
is_more x y f g h = let plain : le_z x y ≡ false = rw (to_z-of_z w128 x f, to_z-of_z w128 y g) at h in grind (arith, ints)

pub not_so : (r : Bool) (X : Type 0) → (IsTrue r ↔ X) → r ≡ false → ¬ X
not_so r X h fails = λ x. false≢true (sym fails ∙ h.1 x)

pub none_found : (o : Option HeadView) (P : Type 0) (r : Bool) → r ≡ is_some o → r ≡ false → IfNone o P → P
none_found None P r is fails h = h
none_found (Some x) P r is fails h = absurd (false≢true (sym fails ∙ is))
