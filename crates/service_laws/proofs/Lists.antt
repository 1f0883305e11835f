-- Lists and tests.
use Rattle.std.proofs.Common.{ℕ, ◌≡◌, ◌∙◌, Bool, true, false, List, Option, None, Some, refl, sym, ap}
use Rattle.std.specs.Prelude.{MatchBool, slice_get, ◌&&◌}
use Rattle.std.specs.List.{list_any}
use Rattle.std.proofs.lemmas.Bool.{false_from_ne_true}
use Rattle.std.proofs.lemmas.List.Folds.{list_any_at}
use Rattle.std.proofs.lemmas.Option.{slice_get_within, get_or_from_slice_get}

-- the two ways of a test
pub either : (b : Bool) (A B D : Type 0) → (b ≡ true → A → D) → (b ≡ false → B → D) → MatchBool b A B → D
either true A B D f g x = f refl x
either false A B D f g x = g refl x

pub not_both : (b : Bool) → b ≡ true → b ≡ false → ⊥
not_both b passes fails = let k : true ≡ false = sym passes ∙ fails in absurd (cc)

pub second_false : (a b : Bool) → a ≡ true → a && b ≡ false → b ≡ false
second_false true b e f = f
second_false false b e f = let k : false ≡ true = e in absurd (cc)

-- no element of a list passes a test that none passes
pub none_passes : {X : Type 0} (p : X → Bool) (xs : List X) → list_any p xs ≡ false → (i : ℕ) (x : X)
    → slice_get xs i ≡ Some x → p x ≡ false
none_passes p xs none i x at =
    false_from_ne_true (p x) (λ passes. not_both (list_any p xs)
    (list_any_at p xs i x (slice_get_within xs i x at) (ap p (get_or_from_slice_get xs i x x at) ∙ passes))
    none)

or_this : {X : Type 0} → X → Option X → X
or_this d None = d
or_this d (Some x) = x

pub some_same : {X : Type 0} (x y : X) → Some x ≡ Some y → x ≡ y
unfolding or_this
some_same x y e = ap (or_this x) e
