-- The change that writing makes to the bytes that a sink took, where it tells them.
use Rattle.std.specs.Prelude.{◌≡◌, ℕ, ◌<◌, ◌≤◌, List, ◌++◌, length, take, Option, None, Some, Result, Ok, Err}

-- a write that succeeds takes at most the piece, and at least one byte of a piece that isn't empty
abbrev pub TakesSome : {E : Type 0} → Result ℕ E → List ℕ → Type 0
TakesSome (Ok n) piece = (n ≤ length piece) × (0 < length piece → 0 < n)
TakesSome (Err e) piece = Unit {0}

-- known bytes grew by a prefix of these, and not by all
abbrev pub AppendsPart : Option (List ℕ) → Option (List ℕ) → List ℕ → Type 0
AppendsPart None new bytes = Unit {0}
AppendsPart (Some xs) None bytes = ⊥
AppendsPart (Some xs) (Some ys) bytes = (n : ℕ) × (n < length bytes) × (ys ≡ xs ++ take n bytes)
