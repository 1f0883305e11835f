-- The view of the rows of a table with text keys.
use Rattle.std.specs.Prelude.{ℕ, List, map, string_bytes}
use Rattle.std.proofs.Common.{String, Global}

-- the names as bytes, with their weights
abbrev pub tenants_of : List (String Global × ℕ) → List (List ℕ × ℕ)
tenants_of rows = map (λ row. (string_bytes row.0, row.1)) rows

-- the names as bytes
abbrev pub kinds_of : List (String Global) → List (List ℕ)
kinds_of keys = map string_bytes keys
