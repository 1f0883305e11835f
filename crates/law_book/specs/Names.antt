-- The law of numbered names.
use Rattle.std.specs.Prelude.{ℕ, ◌≡◌, ◌<◌, List, length, slice_index_or, [], Some}
use Rattle.tenant_table.specs.Names.{AreNames, number_among}

-- each number is found by its name
abbrev pub FindsEachName : Type 0
FindsEachName =
    (limit : ℕ) (names : List (List ℕ)) (t : ℕ) → AreNames limit names → t < length names
    → number_among names (slice_index_or names t []) ≡ Some t
