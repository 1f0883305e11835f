-- Laws on the order and on the winners, for callers.
use Rattle.std.specs.Prelude.{ℕ, ◌≡◌, ◌⊎◌, List, Option}
use Rattle.winner_tree.specs.declared.key.Key.{Key}
use Rattle.winner_tree.specs.Order.{Precedes, IsFirst}

-- of two leaves that differ one comes before the other
abbrev pub OneComesFirst : Type 0
OneComesFirst = (x y : Key) (leaf u : ℕ) → (leaf ≡ u) ⊎ (Precedes x leaf y u ⊎ Precedes y u x leaf)

abbrev pub NotBothComeFirst : Type 0
NotBothComeFirst = (x y : Key) (leaf u : ℕ) → Precedes x leaf y u → Precedes y u x leaf → ⊥

abbrev pub OrderGoesOn : Type 0
OrderGoesOn = (x y z : Key) (leaf u t : ℕ) → Precedes x leaf y u → Precedes y u z t → Precedes x leaf z t

-- at most one leaf is the first, with one key
abbrev pub FirstIsUnique : Type 0
FirstIsUnique =
    (map : List (Option Key)) (leaf u : ℕ) (key other : Key) → IsFirst map leaf key → IsFirst map u other
    → (leaf ≡ u) × (key ≡ other)
