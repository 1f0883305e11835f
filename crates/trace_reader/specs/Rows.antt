-- The rows of a trace.
use Rattle.std.specs.Prelude.{ℕ, List, All, slice_index_or}
use Rattle.vt_fixed.specs.declared.limits.TheConstants.{GREATEST_COST}
use Rattle.program_model.specs.declared.trace.TraceRow.{TraceRow}
use Rattle.fq_model.specs.Limits.{IsWithin}

-- row r, or zeros past the end
abbrev pub row_at : List TraceRow → ℕ → TraceRow
row_at rows r =
    slice_index_or rows r (record { moment = 0; submitter = 0; tenant = 0; kind = 0; declared = 0; cost = 0 })

-- the costs of requests are within their limits
abbrev pub AreCosts : List TraceRow → Type 0
AreCosts rows = All (λ row. IsWithin 1 GREATEST_COST row.cost) rows
