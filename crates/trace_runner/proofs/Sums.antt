-- Sums over rows by their numbers.
use Rattle.std.proofs.Common.{ℕ, zero, suc, ◌+◌, ◌<◌, ◌≤◌, ◌≡◌, List, [], ◌∷◌, length, arith, refl, ap, ◌∙◌}
use Rattle.program_model.specs.declared.trace.TraceRow.{TraceRow}
use Rattle.program_model.specs.Courses.{sum_over, submitters}
use Rattle.fq_model.specs.Sums.{sum_below}
use Rattle.trace_reader.specs.Rows.{row_at}

sum_front : (g : ℕ → ℕ) (n : ℕ) → sum_below g (suc n) ≡ g 0 + sum_below (λ r. g (suc r)) n
unfolding sum_below
sum_front g zero = omega arith
sum_front g (suc n) = omega (arith, sum_front g n)

-- a sum over rows is one over their numbers
pub sum_by_number : (f : TraceRow → ℕ) (rows : List TraceRow) → sum_below (λ r. f (row_at rows r)) (length rows) ≡ sum_over f rows
unfolding sum_below
sum_by_number f [] = refl
sum_by_number f (row ∷ rows) = sum_front (λ r. f (row_at (row ∷ rows) r)) (length rows) ∙ ap (λ n. f row + n) (sum_by_number f rows)

pub submitters_low : (rows : List TraceRow) → ((r : ℕ) → r < length rows → (row_at rows r).submitter ≤ 63) → submitters rows ≤ 64
submitters_low [] h = omega arith
submitters_low (row ∷ rows) h = omega (arith, h 0 (omega arith), submitters_low rows (λ r l. h (suc r) (omega arith)))
