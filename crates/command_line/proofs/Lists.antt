-- Searches of lists by views of their elements.
use Rattle.std.proofs.Common.{ℕ, suc, ◌+◌, ◌≡◌, Bool, true, false, not, cond, ◌||◌, List, [], ◌∷◌, map, length, position, Some, None, refl, sym, ap, ◌∙◌, arith, inl, inr}
use Rattle.std.specs.List.{list_any, position_or_len}
use Rattle.std.proofs.lemmas.Bool.{cases_lt, lt-ltb}
use Rattle.std.proofs.lemmas.List.Sums.{prefix_len-le-length}
use Rattle.std.proofs.lemmas.Option.{none-some}

place-map : {X Y : Type 0} (p : Y → Bool) (f : X → Y) (xs : List X) → position_or_len p (map f xs) ≡ position_or_len (λ x. p (f x)) xs
place-map p f [] = refl
place-map p f (x ∷ xs) = ap (λ n. cond (not (p (f x))) (1 + n) 0) (place-map p f xs)

pub length_map : {X Y : Type 0} (f : X → Y) (xs : List X) → length (map f xs) ≡ length xs
length_map f [] = refl
length_map f (x ∷ xs) = ap suc (length_map f xs)

pub position-map : {X Y : Type 0} (p : Y → Bool) (f : X → Y) (xs : List X) → position p (map f xs) ≡ position (λ x. p (f x)) xs
position-map p f xs = rw (place-map p f xs, length_map f xs) refl

none_more : (b : Bool) (n m : ℕ) (any : Bool) → cond (not b) (1 + n) 0 ≡ suc m → (n ≡ m → any ≡ false) → (b || any) ≡ false
none_more false n m any e later = later (omega arith)
none_more true n m any e later = absurd (omega arith)

-- where the first element that passes would stand past the end, none does
pub none_passes : {X : Type 0} (p : X → Bool) (xs : List X) → position_or_len p xs ≡ length xs → list_any p xs ≡ false
none_passes p [] e = refl
none_passes p (x ∷ xs) e = none_more (p x) (position_or_len p xs) (length xs) (list_any p xs) e (none_passes p xs)

-- where no place is found, no element passes
pub none_has : {X : Type 0} (p : X → Bool) (xs : List X) → position p xs ≡ None → list_any p xs ≡ false
none_has p xs e = elim (cases_lt (position_or_len p xs) (length xs)) [
  | inl below ↦ absurd (none-some (position_or_len p xs) (sym e ∙ ap (λ b. cond b (Some (position_or_len p xs)) None) (lt-ltb _ _ below)))
  | inr past ↦ none_passes p xs (omega (arith, prefix_len-le-length (λ x. not (p x)) xs))
]
