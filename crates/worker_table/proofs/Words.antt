-- The bits of a word that is shifted, and of one with another bit.
use Rattle.std.proofs.Common.{ℕ, ◌≡◌, ◌+◌, ◌-◌, ◌/◌, ◌%◌, ◌^◌, ◌<◌, ◌≤◌, arith, sym, ap, ◌∙◌, inl, inr, w64}
use Rattle.std.specs.Int.{bit_at, trailing_zeros}
use Rattle.std.proofs.lemmas.Bool.{cases_lt}
use Rattle.std.proofs.lemmas.Nat.{shr-shr}
use Rattle.std.proofs.lemmas.Nat.Bits.{bit_at-zero, bit_at_above, bit_at-trailing_zeros}
use Rattle.worker_table.specs.Bits.{HasNoBit, IsFirstBit}

pub shifted : (n from i : ℕ) → bit_at (n / 2 ^ from) i ≡ bit_at n (from + i)
shifted n from i = ap (λ x. x % 2) (shr-shr n from i)

module _ (word from : ℕ) where
  -- a bit of the word from `from` on is one of what is left of the shift
  pub left_bit : (i : ℕ) → from ≤ i → bit_at word i ≡ bit_at (word / 2 ^ from) (i - from)
  left_bit i reached =
      let e : from + (i - from) ≡ i = omega arith in
      ap (bit_at word) (sym e) ∙ sym (shifted word from (i - from))

  pub none_left : word / 2 ^ from ≡ 0 → HasNoBit word from
  none_left none i reached within = left_bit i reached ∙ ap (λ n. bit_at n (i - from)) none ∙ bit_at-zero (i - from)

  pub first_left : word < 2 ^ 64 → 0 < word / 2 ^ from → word / 2 ^ from < 2 ^ 64
      → IsFirstBit word from (from + trailing_zeros w64 (word / 2 ^ from))
  first_left fits some small =
      let rest = word / 2 ^ from in
      let h = bit_at-trailing_zeros w64 rest some small in
      let found : bit_at word (from + trailing_zeros w64 rest) ≡ 1 = sym (shifted word from _) ∙ h.1 in
      record {
        within = elim (cases_lt (from + trailing_zeros w64 rest) 64) [
          | inl l ↦ l
          | inr high ↦ omega (arith, found, bit_at_above word 64 _ fits high)
        ];
        reached = omega arith;
        set = found;
        before = λ i reached below. left_bit i reached ∙ h.2 (i - from) (omega arith);
      }
