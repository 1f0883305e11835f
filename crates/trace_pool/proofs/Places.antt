-- Facts about the items of a list, by their numbers.
use Rattle.std.proofs.Common.{ℕ, suc, ◌+◌, ◌≡◌, List, [], ◌∷◌, ◌++◌, length, subst, sym, arith}
use Rattle.trace_pool.specs.Places.{HoldsFrom}

module _ {A : Type 0} (Holds : ℕ → A → Type 0) where
  pub holds_more : (n m : ℕ) (xs : List A) (y : A) → HoldsFrom Holds n xs → m ≡ n + length xs → Holds m y → HoldsFrom Holds n (xs ++ y ∷ [])
  holds_more n m [] y h is x = let same : m ≡ n = omega (arith, is) in (subst (λ k. Holds k y) same x, tt)
  holds_more n m (z ∷ xs) y h is x = let more : m ≡ suc n + length xs = omega (arith, is) in (h.0, holds_more (suc n) m xs y h.1 more x)

  -- where one item more was pushed
  pub holds_pushed : (m : ℕ) (xs ys : List A) (y : A) → HoldsFrom Holds 0 xs → ys ≡ xs ++ y ∷ [] → m ≡ length xs → Holds m y → HoldsFrom Holds 0 ys
  holds_pushed m xs ys y h more is x = subst (HoldsFrom Holds 0) (sym more) (holds_more 0 m xs y h (omega (arith, is)) x)
