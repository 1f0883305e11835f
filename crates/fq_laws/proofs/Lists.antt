-- Lists over the numbers below a bound.
use Rattle.std.proofs.Common.{ℕ, zero, suc, ◌+◌, ◌<◌, ◌≡◌, [], ◌∷◌, ◌++◌, length, arith, refl, ap, ap₂, sym, ◌∙◌, inl, inr, get_or, length-append, add-one}
use Rattle.std.proofs.lemmas.Bool.{cases_eq}
use Rattle.std.proofs.Math.ListN.{get_or-append}
use Rattle.std.proofs.Math.Seq.{get_or-append_seam}
use Rattle.fq_model.specs.Sums.{list_below}

pub list_same : {A : Type 0} (f g : ℕ → A) (n : ℕ) → ((k : ℕ) → k < n → f k ≡ g k) → list_below f n ≡ list_below g n
unfolding list_below
list_same f g zero h = refl
list_same f g (suc n) h = ap₂ (λ xs x. xs ++ x ∷ []) (list_same f g n (λ k l. h k (omega (arith, l)))) (h n (omega arith))

pub list_none : {A : Type 0} (f : ℕ → A) → list_below f 0 ≡ []
unfolding list_below
list_none f = refl

pub list_more : {A : Type 0} (f : ℕ → A) (n : ℕ) → list_below f (n + 1) ≡ list_below f n ++ f n ∷ []
unfolding list_below
list_more f n = rw add-one refl

pub list_length : {A : Type 0} (f : ℕ → A) (n : ℕ) → length (list_below f n) ≡ n
unfolding list_below
list_length f zero = refl
list_length f (suc n) = omega (arith, length-append (list_below f n) (f n ∷ []), list_length f n)

pub list_at : {A : Type 0} (f : ℕ → A) (n k : ℕ) (d : A) → k < n → get_or (list_below f n) k d ≡ f k
unfolding list_below
list_at f zero k d l = absurd (omega (arith, l))
list_at f (suc n) k d l = elim (cases_eq k n) [
  | inl e ↦ ap (λ i. get_or (list_below f n ++ f n ∷ []) i d) (e ∙ sym (list_length f n)) ∙ get_or-append_seam (list_below f n) (f n) [] d ∙ ap f (sym e)
  | inr ne ↦ get_or-append (list_below f n) (f n ∷ []) d k (omega (arith, l, ne, list_length f n)) ∙ list_at f n k d (omega (arith, l, ne))
]
