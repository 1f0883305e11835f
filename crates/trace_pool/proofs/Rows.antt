-- The rows of a trace, by their submitters and by their labels.
use Rattle.std.proofs.Common.{◌≡◌, ◌≢◌, ◌<◌, ◌≤◌, ◌+◌, ℕ, suc, List, [], ◌∷◌, length, refl, sym, ap, ◌∙◌, arith, Option, Some}
use Rattle.std.specs.Prelude.{slice_get}
use Rattle.std.proofs.lemmas.Bool.{eq-eqb, ne_eqb}
use Rattle.program_model.specs.declared.trace.TraceRow.{TraceRow}
use Rattle.program_model.specs.Courses.{submitters, sum_over, row_request}
use Rattle.fq_model.specs.History.{Request}
use Rattle.program_model.specs.PoolHistory.{requests_from}
use Rattle.fq_model.specs.Sums.{sum_below}
use Rattle.fq_laws.proofs.Sums.{sum_at, sum_zero}
use Rattle.trace_pool.proofs.Sums.{request_sum, one_each}

-- the weight of the requests of all rows, where the first row is row r
abbrev pub rows_sum : (Request → ℕ) → ℕ → List TraceRow → ℕ
rows_sum g r [] = 0
rows_sum g r (row ∷ rows) = g (row_request r row) + rows_sum g (suc r) rows

-- the weight of the requests of submitter j
abbrev pub from_sum : (Request → ℕ) → ℕ → List TraceRow → ℕ → ℕ
from_sum g r rows j = request_sum g (requests_from j r rows)

from_here : (g : Request → ℕ) (r : ℕ) (row : TraceRow) (rows : List TraceRow) (j : ℕ) → row.submitter ≡ j → from_sum g r (row ∷ rows) j ≡ g (row_request r row) + from_sum g (suc r) rows j
from_here g r row rows j by = rw (eq-eqb row.submitter j by) refl

from_else : (g : Request → ℕ) (r : ℕ) (row : TraceRow) (rows : List TraceRow) (j : ℕ) → row.submitter ≢ j → from_sum g r (row ∷ rows) j ≡ from_sum g (suc r) rows j
from_else g r row rows j other = rw (ne_eqb row.submitter j other) refl

-- each row is a row of one submitter
pub from_parts : (g : Request → ℕ) (n r : ℕ) (rows : List TraceRow) → submitters rows ≤ n → sum_below (from_sum g r rows) n ≡ rows_sum g r rows
from_parts g n r [] h = sum_zero (from_sum g r []) n (λ j. refl)
from_parts g n r (row ∷ rows) h =
    let later : sum_below (from_sum g (suc r) rows) n ≡ rows_sum g (suc r) rows = from_parts g n (suc r) rows (omega arith) in
    let known : row.submitter < n = omega arith in
    let step : sum_below (from_sum g r (row ∷ rows)) n + from_sum g (suc r) rows row.submitter ≡ sum_below (from_sum g (suc r) rows) n + from_sum g r (row ∷ rows) row.submitter = sum_at (from_sum g (suc r) rows) (from_sum g r (row ∷ rows)) row.submitter n known (λ s ne. sym (from_else g r row rows s (λ q. ne (sym q)))) in
    omega (arith, later, step, from_here g r row rows row.submitter refl)

pub rows_count : (r : ℕ) (rows : List TraceRow) → rows_sum one_each r rows ≡ length rows
rows_count r [] = refl
rows_count r (row ∷ rows) = omega (arith, rows_count (suc r) rows)

-- the weight of the requests, where a request weighs as much as the row that its label names
pub rows_named : (F : Option TraceRow → ℕ) (all : List TraceRow) (r : ℕ) (rows : List TraceRow) → ((k : ℕ) → slice_get all (r + k) ≡ slice_get rows k) → rows_sum (λ q. F (slice_get all q.label)) r rows ≡ sum_over (λ row. F (Some row)) rows
rows_named F all r [] same = refl
rows_named F all r (row ∷ rows) same =
    let here : slice_get all r ≡ Some row = ap (slice_get all) (omega arith) ∙ same 0 in
    let later : rows_sum (λ q. F (slice_get all q.label)) (suc r) rows ≡ sum_over (λ row. F (Some row)) rows = rows_named F all (suc r) rows (λ k. ap (slice_get all) (omega arith) ∙ same (suc k)) in
    omega (arith, later, ap F here)

pub all_named : (F : Option TraceRow → ℕ) (rows : List TraceRow) → rows_sum (λ q. F (slice_get rows q.label)) 0 rows ≡ sum_over (λ row. F (Some row)) rows
all_named F rows = rows_named F rows 0 rows (λ k. ap (slice_get rows) (omega arith))
