-- Facts about each item of a list, by its place.
use Rattle.std.specs.Prelude.{ℕ, suc, List, [], ◌∷◌}

-- the fact holds of each item and its number, where the first item has this number
abbrev pub HoldsFrom : {A : Type 0} → (ℕ → A → Type 0) → ℕ → List A → Type 0
HoldsFrom Holds n [] = Unit {0}
HoldsFrom Holds n (x ∷ xs) = Holds n x × HoldsFrom Holds (suc n) xs
