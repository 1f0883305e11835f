-- The charge of a running request.
use Rattle.std.specs.Prelude.{ℕ, max}
use Rattle.charge_book.specs.declared.row.RunRow.{RunRow}

-- the greater of the estimate and the last use
abbrev pub row_charge : RunRow → ℕ
row_charge row = max row.estimate row.last
