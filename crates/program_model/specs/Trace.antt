-- Traces: the tenants and kinds that there are, and the requests that come, in order of time.
use Rattle.std.specs.Prelude.{ℕ, if◌then◌else◌, List, [], ◌∷◌, ◌++◌, option_map, unwrap_or, None, codes}
use Rattle.std.specs.List.{last_or}
use Rattle.program_model.specs.declared.trace.TraceRow.{TraceRow}
use Rattle.fq_model.specs.Names.{number_by_appearance, with_appearance}
use Rattle.program_model.specs.Reading.{is_empty}

-- the tenants' names and weights by number, the kinds' names by number, and the requests in order
pub record Trace : Type 0 where
  pub tenants : List (List ℕ)
  pub weights : List ℕ
  pub kinds : List (List ℕ)
  pub rows : List TraceRow

-- the moment of the last of these requests, or 0
abbrev pub last_row_moment : List TraceRow → ℕ
last_row_moment rows = unwrap_or (option_map (λ row. row.moment) (last_or None rows)) 0

-- the trace with one request more: its moment, submitter, tenant, the name of its kind, its declared cost, and its
-- cost; a kind that is new gets the next number
abbrev pub with_row : Trace → ℕ → ℕ → ℕ → List ℕ → ℕ → ℕ → Trace
with_row t moment submitter tenant kind declared cost = record t {
  kinds = with_appearance t.kinds kind;
  rows = t.rows ++ record {
    moment = moment;
    submitter = submitter;
    tenant = tenant;
    kind = number_by_appearance t.kinds kind;
    declared = declared;
    cost = cost;
  } ∷ [];
}

-- the trace of all these requests: where there are none, it has the one kind `-`
abbrev pub with_some_kind : Trace → Trace
with_some_kind t = if is_empty t.rows then record t { kinds = codes "-" ∷ [] } else t
