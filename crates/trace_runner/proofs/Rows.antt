-- The rows of a trace by number.
use Rattle.std.proofs.Common.{ℕ, ◌<◌, ◌≤◌, ◌≡◌, List, length, Some, get_or, arith, ap, ◌∙◌, map, subst}
use Rattle.std.proofs.lemmas.Option.{slice_get-get_or, get_or_from_slice_get, slice_get_within}
use Rattle.std.proofs.lemmas.List.{get_or-map, length-map}
use Rattle.std.specs.Prelude.{slice_get}
use Rattle.program_model.specs.declared.trace.TraceRow.{TraceRow}
use Rattle.program_model.specs.Trace.{Trace}
use Rattle.program_model.specs.TraceText.{IsLawfulTrace, IsLawfulRow}
use Rattle.trace_reader.specs.Rows.{row_at}

pub row_there : (rows : List TraceRow) (r : ℕ) → r < length rows → slice_get rows r ≡ Some (row_at rows r)
row_there rows r l = slice_get-get_or rows r _ l

pub row_is : (rows : List TraceRow) (r : ℕ) (row : TraceRow) → slice_get rows r ≡ Some row → row_at rows r ≡ row
row_is rows r row e = get_or_from_slice_get rows r row _ e

pub row_known : (rows : List TraceRow) (r : ℕ) (row : TraceRow) → slice_get rows r ≡ Some row → r < length rows
row_known rows r row e = slice_get_within rows r row e

pub lawful_row : (T : Trace) (r : ℕ) (row : TraceRow) → IsLawfulTrace T → slice_get T.rows r ≡ Some row → IsLawfulRow (length T.tenants) (length T.kinds) row
lawful_row T r row l e = subst (IsLawfulRow (length T.tenants) (length T.kinds)) (row_is T.rows r row e) (l.rows r _ (row_known T.rows r row e))

-- the moments of all rows, and the moment of one
abbrev moments : List TraceRow → List ℕ
moments rows = map (λ row. row.moment) rows

moment_is : (rows : List TraceRow) (k : ℕ) (request : TraceRow) → slice_get rows k ≡ Some request → get_or (moments rows) k 0 ≡ request.moment
moment_is rows k request e =
    let moment : TraceRow → ℕ = λ x. x.moment in
    get_or-map moment rows k request 0 (row_known rows k request e) ∙ ap moment (get_or_from_slice_get rows k request request e)

-- moments do not fall from row to row
pub rows_rise : (T : Trace) (r s : ℕ) (row next : TraceRow) → IsLawfulTrace T → r ≤ s → slice_get T.rows r ≡ Some row → slice_get T.rows s ≡ Some next → row.moment ≤ next.moment
rows_rise T r s row next l le e f =
    let known : s < length (moments T.rows) = omega (arith, row_known T.rows s next f, length-map T.rows (λ (x : TraceRow). x.moment)) in
    omega (arith, l.in_order r s 0 le known, moment_is T.rows r row e, moment_is T.rows s next f)
