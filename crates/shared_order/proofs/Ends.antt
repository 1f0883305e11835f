-- The greatest and the least length of a head.
use Rattle.std.proofs.Common.{◌≡◌, ◌≢◌, ◌∙◌, ap, ℤ, ◌≤ℤ◌, pos, List, [], ◌∷◌, ◌++◌, arith}
use Rattle.std.specs.Int.{int_max, int_min}
use Rattle.std.specs.List.{All}
use Rattle.std.proofs.lemmas.List.Elements.{All-nil, All-cons, All-weaker}
use Rattle.std.proofs.lemmas.Int.{ints, clamps, by_lt_z}
use Rattle.vt_fixed.specs.declared.limits.TheConstants.{GREATEST_LENGTH}
use Rattle.shared_order.specs.declared.lengths.Lengths.{Lengths}
use Rattle.shared_order.specs.Heads.{HeadView, greatest_length, least_length, lengths_of, with_length, joined_lengths}

-- ---- one of the two

greatest_low : (xs : List HeadView) → pos 0 ≤ℤ greatest_length xs
greatest_low [] = omega (arith, ints)
greatest_low (x ∷ xs) = omega (arith, ints, clamps, greatest_low xs)

greatest-append : (xs ys : List HeadView) → greatest_length (xs ++ ys) ≡ int_max (greatest_length xs) (greatest_length ys)
greatest-append [] ys = omega (arith, ints, clamps, greatest_low ys)
greatest-append (x ∷ xs) ys = omega (arith, ints, clamps, greatest-append xs ys)

greatest-gains : (xs ys : List HeadView) (y : HeadView) → greatest_length (xs ++ y ∷ ys) ≡ int_max (greatest_length (xs ++ ys)) y.len
greatest-gains xs ys y = omega (arith, ints, clamps, greatest-append xs (y ∷ ys), greatest-append xs ys)

least_high : (xs : List HeadView) → least_length xs ≤ℤ GREATEST_LENGTH
least_high [] = omega (arith, ints)
least_high (x ∷ xs) = omega (arith, ints, clamps, least_high xs)

least-append : (xs ys : List HeadView) → least_length (xs ++ ys) ≡ int_min (least_length xs) (least_length ys)
least-append [] ys = omega (arith, ints, clamps, least_high ys)
least-append (x ∷ xs) ys = omega (arith, ints, clamps, least-append xs ys)

least-gains : (xs ys : List HeadView) (y : HeadView) → least_length (xs ++ y ∷ ys) ≡ int_min (least_length (xs ++ ys)) y.len
least-gains xs ys y = omega (arith, ints, clamps, least-append xs (y ∷ ys), least-append xs ys)

pub least_covers : (xs : List HeadView) → All (λ (h : HeadView). least_length xs ≤ℤ h.len) xs
least_covers [] = All-nil (λ (h : HeadView). GREATEST_LENGTH ≤ℤ h.len)
least_covers (x ∷ xs) =
    All-cons (λ (h : HeadView). int_min x.len (least_length xs) ≤ℤ h.len) x xs (omega (arith, ints, clamps)) (All-weaker (λ (h : HeadView). least_length xs ≤ℤ h.len) (λ (h : HeadView). int_min x.len (least_length xs) ≤ℤ h.len) (λ h le. omega (arith, ints, clamps, le)) xs (least_covers xs))

-- ---- both

abbrev pub lengths : ℤ → ℤ → Lengths
lengths longest shortest = record { longest = longest; shortest = shortest }

pub same_lengths : (a b c d : ℤ) → a ≡ c → b ≡ d → lengths a b ≡ lengths c d
same_lengths a b c d e f = ap (λ x. lengths x b) e ∙ ap (lengths c) f

pub lengths-append : (xs ys : List HeadView) → lengths_of (xs ++ ys) ≡ joined_lengths (lengths_of xs) (lengths_of ys)
lengths-append xs ys = same_lengths _ _ _ _ (greatest-append xs ys) (least-append xs ys)

-- a head more or less
pub lengths-gains : (xs ys : List HeadView) (y : HeadView) → lengths_of (xs ++ y ∷ ys) ≡ with_length (lengths_of (xs ++ ys)) y.len
lengths-gains xs ys y = same_lengths _ _ _ _ (greatest-gains xs ys y) (least-gains xs ys y)

pub lengths-push : (xs : List HeadView) (y : HeadView) → lengths_of (xs ++ y ∷ []) ≡ with_length (lengths_of xs) y.len
lengths-push xs y = same_lengths _ _ _ _ (omega (arith, ints, clamps, greatest-append xs (y ∷ []), greatest_low xs)) (omega (arith, ints, clamps, least-append xs (y ∷ []), least_high xs))

-- a head less, which was neither of the longest nor of the shortest
max_other : (a b r : ℤ) → r ≡ int_max a b → r ≢ b → r ≡ a
max_other a b r e n = by_lt_z a b (λ l. absurd (n (omega (arith, ints, clamps, e, l)))) (λ g. omega (arith, ints, clamps, e, g))

min_other : (a b r : ℤ) → r ≡ int_min a b → r ≢ b → r ≡ a
min_other a b r e n = by_lt_z b a (λ l. absurd (n (omega (arith, ints, clamps, e, l)))) (λ g. omega (arith, ints, clamps, e, g))

pub lengths_stay : (a r : Lengths) (len : ℤ) → r ≡ with_length a len → (r.longest ≢ len) × (r.shortest ≢ len) → r ≡ a
lengths_stay a r len e other = same_lengths _ _ _ _ (max_other a.longest len r.longest (ap (λ (x : Lengths). x.longest) e) other.0) (min_other a.shortest len r.shortest (ap (λ (x : Lengths). x.shortest) e) other.1)
