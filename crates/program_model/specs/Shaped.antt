-- The trace whose requests come at other moments.
use Rattle.std.specs.Prelude.{ℕ, ◌≡◌, nat_le, if◌then◌else◌, List, [], ◌∷◌, map, None}
use Rattle.std.specs.List.{zip}
use Rattle.program_model.specs.declared.trace.TraceRow.{TraceRow}
use Rattle.program_model.specs.Conforms.{IsLeastConforming, too_late}
use Rattle.program_model.specs.Trace.{Trace}

-- the rows at these moments, in place of their own
abbrev pub rows_at : List TraceRow → List ℕ → List TraceRow
rows_at rows moments = map (λ p. record p.0 { moment = p.1 }) (zip rows moments)

-- these rows with one that stood before them all: it goes before the first whose moment is not below its own
abbrev pub with_earlier_row : TraceRow → List TraceRow → List TraceRow
with_earlier_row row [] = row ∷ []
with_earlier_row row (next ∷ rows) =
    if nat_le row.moment next.moment then row ∷ next ∷ rows else next ∷ with_earlier_row row rows

-- the rows by moment, and those of one moment in the order in which they stood
abbrev pub by_moment : List TraceRow → List TraceRow
by_moment [] = []
by_moment (row ∷ rows) = with_earlier_row row (by_moment rows)

-- the trace with its rows at these moments, by moment and number; its tenants and kinds stay
abbrev pub at_moments : Trace → List ℕ → Trace
at_moments T moments = record T { rows = by_moment (rows_at T.rows moments) }

-- S is T with each row at the least moment that conforms, and none of these is too late for a trace
pub record IsShaped (T : Trace) (rate burst : ℕ) (S : Trace) : Type 0 where
  pub moments : List ℕ
  pub least : IsLeastConforming T rate burst moments
  pub in_time : too_late moments ≡ None
  pub shaped : S ≡ at_moments T moments
