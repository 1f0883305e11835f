-- Sums over rows.
use Rattle.std.proofs.Common.{ℕ, zero, suc, ◌+◌, ◌<◌, ◌≡◌, max, List, [], ◌∷◌, length, take, arith}
use Rattle.program_model.specs.declared.trace.TraceRow.{TraceRow}
use Rattle.program_model.specs.Courses.{sum_over, submitters}
use Rattle.trace_reader.specs.Rows.{row_at}

pub sum_over_take : (f : TraceRow → ℕ) (rows : List TraceRow) (i : ℕ) → i < length rows → sum_over f (take (suc i) rows) ≡ sum_over f (take i rows) + f (row_at rows i)
sum_over_take f [] i l = absurd (omega arith)
sum_over_take f (row ∷ rows) zero l = omega arith
sum_over_take f (row ∷ rows) (suc i) l = omega (arith, sum_over_take f rows i (omega arith))

pub submitters_take : (rows : List TraceRow) (i : ℕ) → i < length rows → submitters (take (suc i) rows) ≡ max (submitters (take i rows)) ((row_at rows i).submitter + 1)
submitters_take [] i l = absurd (omega arith)
submitters_take (row ∷ rows) zero l = omega arith
submitters_take (row ∷ rows) (suc i) l = omega (arith, submitters_take rows i (omega arith))
