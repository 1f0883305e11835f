-- Numbers that are noted, each once.
use Rattle.std.specs.Prelude.{ℕ, zero, suc, ◌≡◌, ◌<◌, ◌≤◌, Bool, true, false, List, [], ◌∷◌, All, Contains, length, slice_index_or}

-- the flags say that n is noted
abbrev pub IsNoted : List Bool → ℕ → Type 0
IsNoted flags n = slice_index_or flags n false ≡ true

-- how many are
abbrev pub count_noted : List Bool → ℕ
count_noted [] = zero
count_noted (true ∷ flags) = suc (count_noted flags)
count_noted (false ∷ flags) = count_noted flags

-- each number that is noted is in the list, which has no more numbers than are noted
pub record AreListed (flags : List Bool) (numbers : List ℕ) : Type 0 where
  pub counted : length numbers ≡ count_noted flags
  pub known : All (λ n. n < length flags) numbers
  pub listed : (n : ℕ) → IsNoted flags n → Contains numbers n

-- and the list has room for all numbers
abbrev pub KeepsNoted : List Bool → List ℕ → ℕ → Type 0
KeepsNoted flags numbers capacity = AreListed flags numbers × (length flags ≤ capacity)
