-- Rules as rows: a test, and the value where it is the first true test.
use Rattle.std.specs.Prelude.{Bool, if◌then◌else◌, List, [], ◌∷◌, Option, Some, None}

-- the value of the first row whose test is true, if there is one
abbrev pub first_true : {A : Type 0} → List (Bool × A) → Option A
first_true [] = None
first_true (row ∷ rows) = if row.0 then Some row.1 else first_true rows
