-- Moments at which the requests of a trace may come where each tenant has a bucket of tokens. A request takes as many
-- as it declares. A bucket holds at most `burst`, is full at first, and gains at a rate by its tenant's weight.
use Rattle.std.specs.Prelude.{ℕ, suc, ◌+◌, ◌-◌, ◌*◌, ◌≤◌, ◌≡◌, ◌==◌, nat_lt, if◌then◌else◌, List, [], ◌∷◌, length, take, drop, slice_get, slice_index, position, Option, Some}
use Rattle.fq_model.specs.declared.limits.TheConstants.{GREATEST_TRACE_MOMENT}
use Rattle.program_model.specs.declared.trace.TraceRow.{TraceRow}
use Rattle.program_model.specs.Trace.{Trace}

-- how many tokens tenant t gains in 1000 microseconds
abbrev pub gain : Trace → ℕ → ℕ → ℕ
gain T rate t = rate * slice_index T.weights t

-- the sum of the declared costs of the rows of tenant t
abbrev pub declared_by : ℕ → List TraceRow → ℕ
declared_by t [] = 0
declared_by t (row ∷ rows) = (if row.tenant == t then row.declared else 0) + declared_by t rows

-- rows j to k
abbrev pub rows_between : List TraceRow → ℕ → ℕ → List TraceRow
rows_between rows j k = drop j (take (suc k) rows)

-- the moment of row k, which is this row, is m
pub record IsMoved (T : Trace) (moments : List ℕ) (k : ℕ) (row : TraceRow) (m : ℕ) : Type 0 where
  pub row_is : slice_get T.rows k ≡ Some row
  pub moment_is : slice_get moments k ≡ Some m

-- rows j and k, of which the moments are m and n, are of tenant t, and j is at most k
pub record IsPair (T : Trace) (moments : List ℕ) (t j k m n : ℕ) : Type 0 where
  pub first : TraceRow
  pub last : TraceRow
  pub first_at : IsMoved T moments j first m
  pub last_at : IsMoved T moments k last n
  pub first_tenant : first.tenant ≡ t
  pub last_tenant : last.tenant ≡ t
  pub in_order : j ≤ k

-- the moments, one a row, conform: none is before its row's, within a tenant they do not fall, and the rows of a tenant
-- from any row to any later one, or that row alone, take no more than a full bucket and its gain in between
pub record Conforms (T : Trace) (rate burst : ℕ) (moments : List ℕ) : Type 0 where
  pub one_each : length moments ≡ length T.rows
  pub not_early : (k : ℕ) (row : TraceRow) (m : ℕ) → IsMoved T moments k row m → row.moment ≤ m
  pub rising : (t j k m n : ℕ) → IsPair T moments t j k m n → m ≤ n
  pub in_bucket : (t j k m n : ℕ) → IsPair T moments t j k m n →
      1000 * declared_by t (rows_between T.rows j k) ≤ 1000 * burst + gain T rate t * (n - m)

-- the moments conform, and none of them is after that of other moments which conform
pub record IsLeastConforming (T : Trace) (rate burst : ℕ) (moments : List ℕ) : Type 0 where
  pub conforms : Conforms T rate burst moments
  pub least : (others : List ℕ) (k m n : ℕ) → Conforms T rate burst others →
      slice_get moments k ≡ Some m → slice_get others k ≡ Some n → m ≤ n

-- the least row that declares more than a bucket holds, if there is one: then no moments conform
abbrev pub too_big : Trace → ℕ → Option ℕ
too_big T burst = position (λ row. nat_lt burst row.declared) T.rows

-- the least row whose moment is too late for a trace, if there is one
abbrev pub too_late : List ℕ → Option ℕ
too_late moments = position (nat_lt GREATEST_TRACE_MOMENT) moments
