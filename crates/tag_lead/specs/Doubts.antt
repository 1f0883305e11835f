-- The doubt about the request that one worker runs.
use Rattle.std.specs.Prelude.{ℕ, ◌+◌, ◌-◌, ◌<◌, ◌==◌, if◌then◌else◌, List, slice_index, Option, Some, None}
use Rattle.vt_fixed.specs.Rounding.{length_of}
use Rattle.charge_book.specs.declared.row.RunRow.{RunRow}
use Rattle.charge_book.specs.Rows.{row_charge}
use Rattle.tag_lead.specs.Spans.{Measurable}

-- the row's length can be reckoned, and its request is in lists of these lengths
pub record CanDoubt (n m : ℕ) (row : RunRow) : Type 0 where
  pub measurable : Measurable row (row_charge row)
  pub among_longest : row.request < n
  pub among_shortest : row.request < m

-- the rise of a request of tenant t from this length to its greatest
abbrev pub rise_of : RunRow → ℕ → List ℕ → ℕ → ℕ
rise_of row len longest t = if row.tenant == t then slice_index longest row.request - len else 0

-- the fall of a request of tenant t from this length to its least
abbrev pub fall_of : RunRow → ℕ → List ℕ → ℕ → ℕ
fall_of row len shortest t = if row.tenant == t then len - slice_index shortest row.request else 0

-- both, of the request that a worker runs, in the lead of f over g
abbrev pub part_of : List ℕ → List ℕ → ℕ → ℕ → Option RunRow → ℕ
part_of longest shortest f g None = 0
part_of longest shortest f g (Some row) =
    rise_of row (length_of (row_charge row) row.weight) longest f
    + fall_of row (length_of (row_charge row) row.weight) shortest g
