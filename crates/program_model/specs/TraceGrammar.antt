-- Traces as texts: records of fields between commas, each a tenant or a request.
-- A text is a trace, or it has a first fault: the number of a record, counted from 1, and its fault.
use Rattle.std.specs.Prelude.{ℕ, ◌+◌, ◌*◌, ◌==◌, nat_lt, not, ◌||◌, if◌then◌else◌, List, [], ◌∷◌, ◌++◌, length, is_some, Result, Ok, Err, slice_index_or, codes}
use Rattle.std.specs.List.{list_all}
use Rattle.std.specs.Str.{is_utf8}
use Rattle.csv.specs.Reading.{records, default_config, strip_bom}
use Rattle.program_model.specs.declared.fault.TraceKind.{TraceKind}
use Rattle.program_model.specs.declared.fault.TraceKind.TheVariants.{NotUtf8, Word, Fields, Number, Range, UnknownTenant, Twice, Backward, TooMany, NoTenants}
use Rattle.program_model.specs.declared.trace.TraceRow.{TraceRow}
use Rattle.vt_fixed.specs.declared.limits.TheConstants.{GREATEST_COST}
use Rattle.fq_model.specs.declared.limits.TheConstants.{TEXT_WEIGHT, TEXT_TENANTS, MOST_KINDS, TEXT_PAIRS, MOST_ROWS, GREATEST_TRACE_MOMENT, GREATEST_SUBMITTER}
use Rattle.fq_model.specs.Limits.{is_outside}
use Rattle.fq_model.specs.Names.{number_among}
use Rattle.program_model.specs.Numbers.{number_of}
use Rattle.fq_model.specs.Spelling.{is_name}
use Rattle.program_model.specs.Reading.{◌>>=◌, or_fault, at_line, begins_with, is_empty}
use Rattle.program_model.specs.Trace.{Trace, last_row_moment, with_row, with_some_kind}

-- Fields.

-- the fields of a record
abbrev pub Record : Type 0
Record = List (List ℕ)

-- field k, where the first is field 0; faults count from 1
abbrev pub field : Record → ℕ → List ℕ
field fields k = slice_index_or fields k []

-- the record has this many fields
abbrev pub with_count : ℕ → Record → Result Record TraceKind
with_count n fields = if length fields == n then Ok fields else Err (Fields (length fields))

-- the number of field k is from low to high
abbrev pub in_range : ℕ → ℕ → ℕ → ℕ → Result ℕ TraceKind
in_range k low high n = if is_outside low high n then Err (Range (k + 1)) else Ok n

-- field k is a number
unfoldable pub number_at : Record → ℕ → Result ℕ TraceKind
number_at fields k = or_fault (Number (k + 1)) (number_of (field fields k))

-- field k is a number from low to high
unfoldable pub ranged_at : Record → ℕ → ℕ → ℕ → Result ℕ TraceKind
ranged_at fields k low high = number_at fields k >>= in_range k low high

-- the moment is not before the last one
abbrev pub not_before : ℕ → ℕ → Result ℕ TraceKind
not_before last moment = if nat_lt moment last then Err Backward else Ok moment

-- field k is a moment, and not before that of the last of these requests
unfoldable pub moment_at : List TraceRow → Record → ℕ → Result ℕ TraceKind
moment_at rows fields k = ranged_at fields k 0 GREATEST_TRACE_MOMENT >>= not_before (last_row_moment rows)

-- field k is a name
unfoldable pub name_at : Record → ℕ → Result (List ℕ) TraceKind
name_at fields k = if is_name (field fields k) then Ok (field fields k) else Err Word

-- the name stands nowhere among these
abbrev pub new_among : List (List ℕ) → List ℕ → Result (List ℕ) TraceKind
new_among names name = if is_some (number_among names name) then Err Twice else Ok name

-- field k is a name that none of these is
unfoldable pub new_name_at : List (List ℕ) → Record → ℕ → Result (List ℕ) TraceKind
new_name_at names fields k = name_at fields k >>= new_among names

-- field k is the name of one of these tenants, here by its number
unfoldable pub tenant_at : List (List ℕ) → Record → ℕ → Result ℕ TraceKind
tenant_at tenants fields k = name_at fields k >>= λ name. or_fault UnknownTenant (number_among tenants name)

-- Records.

-- the trace has no more tenants, kinds, pairs of both and requests than there may be
abbrev pub not_too_many : Trace → Result Trace TraceKind
not_too_many t =
    if nat_lt TEXT_TENANTS (length t.tenants)
    || (nat_lt MOST_KINDS (length t.kinds)
    || (nat_lt MOST_ROWS (length t.rows) || nat_lt TEXT_PAIRS (length t.tenants * length t.kinds)))
    then Err TooMany
    else Ok t

-- `tenant,<name>,<weight>`
unfoldable pub with_tenant : Trace → Record → Result Trace TraceKind
with_tenant t whole = do
  fields ← with_count 3 whole
  name ← new_name_at t.tenants fields 1
  weight ← ranged_at fields 2 1 TEXT_WEIGHT
  not_too_many (record t { tenants = t.tenants ++ name ∷ []; weights = t.weights ++ weight ∷ [] })

-- `request,<moment>,<submitter>,<tenant>,<kind>,<declared>,<cost>`
unfoldable pub with_request : Trace → Record → Result Trace TraceKind
with_request t whole = do
  fields ← with_count 7 whole
  moment ← moment_at t.rows fields 1
  submitter ← ranged_at fields 2 0 GREATEST_SUBMITTER
  tenant ← tenant_at t.tenants fields 3
  kind ← name_at fields 4
  declared ← ranged_at fields 5 1 GREATEST_COST
  cost ← ranged_at fields 6 1 GREATEST_COST
  not_too_many (with_row t moment submitter tenant kind declared cost)

-- the trace with one record more
unfoldable pub with_record : Trace → Record → Result Trace TraceKind
with_record t fields =
    if not (list_all is_utf8 fields) then Err NotUtf8
    else if begins_with fields (codes "tenant") then with_tenant t fields
    else if begins_with fields (codes "request") then with_request t fields
    else Err Word

-- The whole text.

-- all records are read: a tenant is there, and a kind where no request names one; `place` is one more than the number
-- of records
abbrev pub at_end : ℕ → Trace → Result Trace (ℕ × TraceKind)
at_end place t = if is_empty t.tenants then Err (place, NoTenants) else Ok (with_some_kind t)

-- the trace with more records, of which the first is record `place` of the text
abbrev pub with_records : ℕ → Trace → List Record → Result Trace (ℕ × TraceKind)
with_records place t [] = at_end place t
with_records place t (fields ∷ more) =
    at_line place (with_record t fields) >>= λ longer. with_records (place + 1) longer more

-- no tenants and no requests yet
abbrev pub no_records : Trace
no_records = record { tenants = []; weights = []; kinds = []; rows = [] }

-- the trace that records spell, or their first fault
abbrev pub trace_of_records : List Record → Result Trace (ℕ × TraceKind)
trace_of_records fields = with_records 1 no_records fields

-- the trace that a text spells, or its first fault; a byte order mark at its very start is no part of its first record
unfoldable pub trace_of : List ℕ → Result Trace (ℕ × TraceKind)
trace_of bytes = trace_of_records (records default_config (strip_bom bytes))
