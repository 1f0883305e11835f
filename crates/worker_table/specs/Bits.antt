-- The bits of a word.
use Rattle.std.specs.Prelude.{ℕ, ◌≡◌, ◌≢◌, ◌<◌, ◌≤◌}
use Rattle.std.specs.Int.{bit_at}

-- the first set bit of a word from this one on
pub record IsFirstBit (word from bit : ℕ) : Type 0 where
  pub within : bit < 64
  pub reached : from ≤ bit
  pub set : bit_at word bit ≡ 1
  pub before : (i : ℕ) → from ≤ i → i < bit → bit_at word i ≡ 0

-- no bit of a word is set from this one on
abbrev pub HasNoBit : ℕ → ℕ → Type 0
HasNoBit word from = (i : ℕ) → from ≤ i → i < 64 → bit_at word i ≡ 0

-- the bit has this value, and each other bit is as before
pub record IsWithBit (word bit value after : ℕ) : Type 0 where
  pub value_is : bit_at after bit ≡ value
  pub others : (i : ℕ) → i < 64 → i ≢ bit → bit_at after i ≡ bit_at word i
