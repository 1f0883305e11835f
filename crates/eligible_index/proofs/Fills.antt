-- Writing one value to every place of a list.
use Rattle.std.proofs.Common.{ℕ, ◌+◌, ◌≡◌, ◌<◌, List, [], ◌++◌, ◌∷◌, length, replicate, set, take, arith, refl, sym, ap, ◌∙◌}
use Rattle.std.proofs.lemmas.List.{length-set, take_more_set, replicate_more, take_all}

module _ {A : Type 0} (value : A) where
  -- the first i places have it
  pub record IsFilledTo (before now : List A) (i : ℕ) : Type 0 where
    pub sized : length now ≡ length before
    pub filled : take i now ≡ replicate i value

  pub fill_first : (xs : List A) → IsFilledTo xs xs 0
  fill_first xs = record { sized = refl; filled = refl }

  pub fill_next : (before now : List A) (i : ℕ) → i < length before → IsFilledTo before now i → IsFilledTo before (set now i value) (i + 1)
  fill_next before now i lt h = record {
    sized = length-set now i value ∙ h.sized;
    filled = take_more_set now i value (omega (arith, h.sized, lt)) ∙ (ap (λ ys. ys ++ value ∷ []) h.filled ∙ replicate_more i value);
  }

  pub fill_last : (before now : List A) (i n : ℕ) → n ≡ length before → i ≡ n → IsFilledTo before now i → now ≡ replicate n value
  fill_last before now i n e f h = sym (take_all i now (omega (arith, h.sized, e, f))) ∙ (h.filled ∙ ap (λ k. replicate k value) f)
