-- The sample at a rank.
use Rattle.std.proofs.Common.{ℕ, suc, ◌+◌, ◌<◌, ◌≤◌, ◌≡◌, Bool, true, false, not, cond, List, [], ◌∷◌, ◌++◌, Some, length, get_or, take, arith, refl, ap, append_assoc, length-append, sym, ◌∙◌, subst, inl, inr, ℤ, pos, int_lt, int_le, nat_le, nat_lt, unwrap_or, ◌≢◌, All, Contains}
use Rattle.std.specs.Prelude.{◌<ℤ◌, ◌≤ℤ◌}
use Rattle.std.specs.Int.{int_min}
use Rattle.std.specs.List.{find, count_by, sum_by, filter}
use Rattle.std.specs.List.Sorted.{IsPermutation, IsSplitAround}
use Rattle.std.specs.Ordering.{int_cmp, is_lt}
use Rattle.std.proofs.lemmas.Int.{ints}
use Rattle.std.proofs.lemmas.Bool.{cases_Bool, both_ways, and_parts, and_from, leb-true, ltb-true, le-leb, lt-ltb, cond-true, cond-false}
use Rattle.std.proofs.lemmas.List.Sums.{sum_by-cons, sum_by-le-sum_by, sum_by-append, count_by-le-length, get_or-le-sum_by, length-filter}
use Rattle.std.proofs.lemmas.List.Filters.{length-filter_both}
use Rattle.std.proofs.lemmas.List.Elements.{All-cons, All-append, All-more, All-weaker, All-contains, Contains-append_right}
use Rattle.std.proofs.lemmas.List.Sorted.{sum_by-IsPermutation, IsPermutation-sym, IsPermutation-cons, IsPermutation-trans, IsPermutation-append_right, Contains-permutation, length_permutation}
use Rattle.fluid_reference.proofs.Lists.{sum_none}
use Rattle.lag_report.specs.Ranked.{StandsAt}
use Rattle.fq_model.specs.Ranks.{count_up_to, count_less, is_at_rank, at_rank, least_sample, greatest_sample, OneAtRank}

-- ---- one number at most

below : (x y : ℤ) → int_lt x y ≡ true → x <ℤ y
below x y h = grind (arith, ints)

not_below : (x y : ℤ) → int_lt x y ≡ false → y ≤ℤ x
not_below x y h = grind (arith, ints)

-- a test that an order passes
at_most : (x y : ℤ) → x ≤ℤ y → int_le x y ≡ true
at_most x y h = grind (arith, ints)

not_less : (x y : ℤ) → y ≤ℤ x → cond (int_lt x y) 1 0 ≡ (let none : ℕ = 0 in none)
not_less x y h = grind (arith, ints)

not_less_one : (x y : ℤ) → y ≤ℤ x → cond (not (int_lt x y)) 1 0 ≡ (let one : ℕ = 1 in one)
not_less_one x y h = grind (arith, ints)

at_most_itself : (x : ℤ) → x ≤ℤ x
at_most_itself x = omega (arith, ints)

in_turn : (x y z : ℤ) → x ≤ℤ y → y ≤ℤ z → x ≤ℤ z
in_turn x y z h k = omega (arith, ints, h, k)

-- a sample that is at most x is less than a greater y
less_than_more : (x y z : ℤ) → x <ℤ y → cond (int_le z x) 1 0 ≤ cond (int_lt z y) 1 0
less_than_more x y z h = grind (arith, ints)

counts_apart : (x y : ℤ) (samples : List ℤ) → x <ℤ y → count_up_to x samples ≤ count_less y samples
counts_apart x y samples h = sum_by-le-sum_by _ _ samples (λ z. less_than_more x y z h)

abbrev cond_ℕ : Bool → ℕ
cond_ℕ b = cond b 1 0

-- a sample other than x counts alike on both sides
other_counts : (x z : ℤ) → z ≢ x → int_le z x ≡ int_lt z x
other_counts x z h = grind (arith, ints)

-- the number at a rank is a sample
found : (x : ℤ) (test : ℤ → Bool) (samples : List ℤ) → test x ≡ true → count_less x samples < count_up_to x samples → (y : ℤ) × (find test samples ≡ Some y) × (test y ≡ true)
found x test [] is more = absurd (omega arith)
found x test (z ∷ zs) is more = elim (cases_Bool (test z)) [
  | inl e ↦ (z, cond-true (test z) _ _ e, e)
  | inr e ↦
      let ne : z ≢ x = λ same. both_ways (test z) e (ap test same ∙ is) in
      let less : count_less x (z ∷ zs) ≡ cond (int_lt z x) 1 0 + count_less x zs = sum_by-cons _ z zs in
      let up : count_up_to x (z ∷ zs) ≡ cond (int_le z x) 1 0 + count_up_to x zs = sum_by-cons _ z zs in
      let alike : cond_ℕ (int_le z x) ≡ cond_ℕ (int_lt z x) = ap cond_ℕ (other_counts x z ne) in
      let rest = found x test zs is (omega (arith, less, up, alike)) in
      (rest.0, cond-false (test z) _ _ e ∙ rest.1, rest.2)
]

-- at least `rank` samples are at most the sample at that rank, and fewer are less
enough : (rank : ℕ) (samples : List ℤ) (x : ℤ) → is_at_rank rank samples x ≡ true → rank ≤ count_up_to x samples
enough rank samples x at = leb-true rank (count_up_to x samples) (and_parts (nat_le rank (count_up_to x samples)) (nat_lt (count_less x samples) rank) at).0

fewer : (rank : ℕ) (samples : List ℤ) (x : ℤ) → is_at_rank rank samples x ≡ true → count_less x samples < rank
fewer rank samples x at = ltb-true (count_less x samples) rank (and_parts (nat_le rank (count_up_to x samples)) (nat_lt (count_less x samples) rank) at).1

ordered : (rank : ℕ) (samples : List ℤ) (x y : ℤ) → is_at_rank rank samples x ≡ true → is_at_rank rank samples y ≡ true → y ≤ℤ x
ordered rank samples x y at_x at_y = elim (cases_Bool (int_lt x y)) [
  | inl e ↦ absurd (omega (arith, enough rank samples x at_x, fewer rank samples y at_y, counts_apart x y samples (below x y e)))
  | inr e ↦ not_below x y e
]

pub one_at_rank : OneAtRank
one_at_rank rank samples x at =
    let more : count_less x samples < count_up_to x samples = omega (arith, enough rank samples x at, fewer rank samples x at) in
    let some = found x (is_at_rank rank samples) samples at more in
    let less : some.0 ≤ℤ x = ordered rank samples x some.0 at some.2 in
    let more : x ≤ℤ some.0 = ordered rank samples some.0 x some.2 at in
    let same : some.0 ≡ x = omega (arith, ints, less, more) in
    ap (λ o. unwrap_or o (pos 0)) some.1 ∙ same

-- ---- where samples stand in order

count_all : (test : ℤ → Bool) (xs : List ℤ) → All (λ x. test x ≡ true) xs → count_by test xs ≡ length xs
count_all test [] h = refl
count_all test (x ∷ xs) h = sum_by-cons _ x xs ∙ rw (h 0 x (omega arith)) (omega (arith, count_all test xs (λ k d l. h (suc k) d (omega (arith, l)))))

-- a sample stands at the rank that follows those before it, where none of them is greater and none after it is less
at_cut : (samples before after : List ℤ) (x : ℤ) → IsPermutation samples (before ++ x ∷ after) → All (λ y. y ≤ℤ x) before → All (λ y. x ≤ℤ y) after → x ≡ at_rank (length before + 1) samples
at_cut samples before after x moved low high =
    let whole : (f : ℤ → ℕ) → sum_by f samples ≡ sum_by f before + (f x + sum_by f after) = λ f. sym (sum_by-IsPermutation f samples (before ++ x ∷ after) moved) ∙ sum_by-append f before (x ∷ after) ∙ ap (λ n. sum_by f before + n) (sum_by-cons f x after) in
    let front : count_up_to x before ≡ length before = count_all (λ y. int_le y x) before (λ k d l. at_most _ _ (low k d l)) in
    let here : cond_ℕ (int_le x x) ≡ 1 = ap cond_ℕ (at_most x x (at_most_itself x)) in
    let back : count_less x after ≡ 0 = sum_none (λ y. cond_ℕ (int_lt y x)) after (λ k d l. not_less _ _ (high k d l)) in
    let itself : cond_ℕ (int_lt x x) ≡ 0 = not_less x x (at_most_itself x) in
    let up_to : length before + 1 ≤ count_up_to x samples = omega (arith, whole (λ y. cond_ℕ (int_le y x)), front, here) in
    let less : count_less x samples < length before + 1 = omega (arith, whole (λ y. cond_ℕ (int_lt y x)), back, itself, count_by-le-length (λ y. int_lt y x) before) in
    sym (one_at_rank (length before + 1) samples x (and_from _ _ (le-leb _ _ up_to) (lt-ltb _ _ less)))

-- the sample at a place, counted from 0, has the rank that is one more
pub rank_of : (samples after : List ℤ) (at rank : ℕ) (x : ℤ) → StandsAt samples at x after → at + 1 ≡ rank → x ≡ at_rank rank samples
rank_of samples after at rank x stands next = at_cut samples stands.before after x stands.same stands.low stands.high ∙ ap (λ n. at_rank n samples) (ap (λ n. n + 1) stands.place ∙ next)

-- a number that is not less by std's order is at least the other
not_after : (x y : ℤ) → is_lt (int_cmp y x) ≡ false → x ≤ℤ y
not_after x y h = grind (arith, ints)

-- the sample at a place, by a selection
pub selected : (samples before after : List ℤ) (at : ℕ) (x z : ℤ) → IsPermutation samples (before ++ x ∷ after) → length before ≡ at → IsSplitAround int_cmp before x after → z ≡ x → StandsAt samples at z after
selected samples before after at x z moved place split is = subst (λ y. StandsAt samples at y after) (sym is) (record {
  before = before;
  same = moved;
  place = place;
  low = λ k d l. not_after (get_or before k d) x (split.0 k d l);
  high = λ k d l. not_after x (get_or after k d) (split.1 k d l);
})

-- a property of all samples holds of the sample at a place
holds_there : (P : ℤ → Type 0) (samples after : List ℤ) (at : ℕ) (x : ℤ) → StandsAt samples at x after → All P samples → P x
holds_there P samples after at x stands all = All-contains P samples x all (Contains-permutation (stands.before ++ x ∷ after) samples x (IsPermutation-sym samples (stands.before ++ x ∷ after) stands.same) (Contains-append_right stands.before (x ∷ after) x (0, omega arith, refl)))

-- the number of samples after the place
pub those_after : (samples after : List ℤ) (at : ℕ) (x : ℤ) → StandsAt samples at x after → at + 1 + length after ≡ length samples
those_after samples after at x stands = omega (arith, stands.place, length-append stands.before (x ∷ after), length_permutation samples (stands.before ++ x ∷ after) stands.same)

-- one more sample, none greater than the others, moves each a place on
pub one_more : (samples after : List ℤ) (at next : ℕ) (first x : ℤ) → All (λ y. first ≤ℤ y) samples → StandsAt samples at x after → at + 1 ≡ next → StandsAt (first ∷ samples) next x after
one_more samples after at next first x least stands is = record {
  before = first ∷ stands.before;
  same = IsPermutation-cons first samples (stands.before ++ x ∷ after) stands.same;
  place = omega (arith, stands.place, is);
  low = All-cons (λ y. y ≤ℤ x) first stands.before (holds_there (λ y. first ≤ℤ y) samples after at x stands least) stands.low;
  high = stands.high;
}

-- the sample at a place is no less than the least sample
none_less : (x y : ℤ) (rest after : List ℤ) (at : ℕ) → All (λ z. x ≤ℤ z) rest → StandsAt (x ∷ rest) at y after → x ≤ℤ y
none_less x y rest after at least stands = holds_there (λ z. x ≤ℤ z) (x ∷ rest) after at y stands (All-cons (λ z. x ≤ℤ z) x rest (at_most_itself x) least)

-- the place of a sample, by its place among the samples from another on
pub further : (samples rest after : List ℤ) (from at next : ℕ) (x y z : ℤ) → StandsAt samples from x rest → StandsAt (x ∷ rest) at y after → from + at ≡ next → z ≡ y → StandsAt samples next z after
further samples rest after from at next x y z first second place is = subst (λ w. StandsAt samples next w after) (sym is) (record {
  before = first.before ++ second.before;
  same = IsPermutation-trans samples (first.before ++ x ∷ rest) ((first.before ++ second.before) ++ y ∷ after) first.same
      (subst (IsPermutation (first.before ++ x ∷ rest)) (sym (append_assoc first.before second.before (y ∷ after))) (IsPermutation-append_right first.before (x ∷ rest) (second.before ++ y ∷ after) second.same));
  place = omega (arith, length-append first.before second.before, first.place, second.place, place);
  low = All-append (λ w. w ≤ℤ y) first.before second.before (λ k d l. in_turn (get_or first.before k d) x y (first.low k d l) (none_less x y rest after at first.high second)) second.low;
  high = second.high;
})

-- ---- the least and the greatest

pub least_at : (xs : List ℤ) (m : ℤ) (k : ℕ) (d : ℤ) → k < length xs → get_or xs k d ≡ m → All (λ x. m ≤ℤ x) xs → m ≡ least_sample xs
least_at xs m k d inside is low =
    let here : 1 ≤ count_up_to m xs = omega (arith, get_or-le-sum_by (λ x. cond_ℕ (int_le x m)) xs k d inside, ap cond_ℕ (at_most (get_or xs k d) m (subst (λ x. x ≤ℤ m) (sym is) (at_most_itself m)))) in
    let less : count_less m xs ≡ 0 = sum_none (λ x. cond_ℕ (int_lt x m)) xs (λ j e l. not_less (get_or xs j e) m (low j e l)) in
    sym (one_at_rank 1 xs m (and_from (nat_le 1 (count_up_to m xs)) (nat_lt (count_less m xs) 1) (le-leb 1 (count_up_to m xs) here) (lt-ltb (count_less m xs) 1 (omega (arith, less)))))

-- a least so far, one sample later
pub lower : (xs : List ℤ) (k : ℕ) (d before now : ℤ) → k < length xs → now ≤ℤ before → now ≤ℤ get_or xs k d → All (λ x. before ≤ℤ x) (take k xs) → All (λ x. now ≤ℤ x) (take (k + 1) xs)
lower xs k d before now inside down here low = All-more (λ x. now ≤ℤ x) xs k d inside (All-weaker (λ x. before ≤ℤ x) (λ x. now ≤ℤ x) (λ x. in_turn now before x down) (take k xs) low) here

-- the lower of two samples is one of them
pub lower_of : (xs : List ℤ) (x y : ℤ) → Contains xs x → Contains xs y → Contains xs (int_min x y)
lower_of xs x y one other = elim (cases_Bool (int_lt y x)) [
  | inl e ↦ subst (Contains xs) (sym (cond-true (int_lt y x) y x e)) other
  | inr e ↦ subst (Contains xs) (sym (cond-false (int_lt y x) y x e)) one
]

pub greatest_at : (xs : List ℤ) (m : ℤ) (k : ℕ) (d : ℤ) → k < length xs → get_or xs k d ≡ m → All (λ x. x ≤ℤ m) xs → m ≡ greatest_sample xs
greatest_at xs m k d inside is high =
    let all : count_up_to m xs ≡ length xs = count_all (λ x. int_le x m) xs (λ j e l. at_most (get_or xs j e) m (high j e l)) in
    let both : length (filter (λ x. int_lt x m) xs) + length (filter (λ x. not (int_lt x m)) xs) ≡ length xs = length-filter_both (λ x. int_lt x m) (λ x. not (int_lt x m)) (λ x. refl) xs in
    let other : cond_ℕ (not (int_lt (get_or xs k d) m)) ≡ 1 = not_less_one (get_or xs k d) m (subst (λ x. m ≤ℤ x) (sym is) (at_most_itself m)) in
    let here : 1 ≤ count_by (λ x. not (int_lt x m)) xs = omega (arith, get_or-le-sum_by (λ x. cond_ℕ (not (int_lt x m))) xs k d inside, other) in
    let fewer : count_less m xs < length xs = omega (arith, both, here, length-filter (λ x. int_lt x m) xs, length-filter (λ x. not (int_lt x m)) xs) in
    sym (one_at_rank (length xs) xs m (and_from (nat_le (length xs) (count_up_to m xs)) (nat_lt (count_less m xs) (length xs)) (le-leb (length xs) (count_up_to m xs) (omega (arith, all))) (lt-ltb (count_less m xs) (length xs) fewer)))
