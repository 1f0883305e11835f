-- Classes of size: each begins at a power of 2.
use Rattle.std.specs.Prelude.{ℕ, zero, suc, ◌+◌, ◌^◌, nat_le, if◌then◌else◌}

-- how many of the first powers of 2, from 2 on, are at most a number
unfoldable pub powers_within : ℕ → ℕ → ℕ
powers_within zero n = 0
powers_within (suc k) n = powers_within k n + (if nat_le (2 ^ suc k) n then 1 else 0)

-- the greatest k for which 2 ^ k is at most the number, and 0 for the number 0
abbrev pub class_of : ℕ → ℕ
class_of n = powers_within 63 n
