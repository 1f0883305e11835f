-- The results of the reader, against the trace that a text spells.
use Rattle.std.specs.Prelude.{ℕ, ◌*◌, ◌≡◌, nat_lt, Bool, ◌||◌, List, Result, Ok, Err, Some}
use denote.Ref.{Bor}
use Rattle.csv.specs.Reading.{ReadRecord}
use Rattle.csv.specs.declared.reader.Reader.{Reader}
use Rattle.program_model.specs.declared.fault.TraceKind.{TraceKind}
use Rattle.program_model.specs.declared.trace.TraceRow.{TraceRow}
use Rattle.fq_model.specs.declared.limits.TheConstants.{TEXT_TENANTS, MOST_KINDS, TEXT_PAIRS, MOST_ROWS}
use Rattle.program_model.specs.Trace.{Trace}
use Rattle.program_model.specs.TraceGrammar.{Record}
use Rattle.tenant_table.specs.Names.{names_of, weights_of}
use Rattle.trace_reader.specs.declared.fault.RecordError.{RecordError}
use Rattle.trace_reader.specs.declared.fault.RecordError.TheVariants as errors
use Rattle.trace_reader.specs.declared.fault.TraceFault.{TraceFault}
use Rattle.trace_reader.specs.declared.fault.TraceFault.TheVariants as faults

-- the trace of these tenants, with their weights, kinds and requests
abbrev pub trace_in : List (List ℕ × ℕ) → List (List ℕ) → List TraceRow → Trace
trace_in tenants kinds rows =
    record { tenants = names_of tenants; weights = weights_of tenants; kinds = kinds; rows = rows }

-- more tenants, kinds, requests or pairs of a tenant and a kind than there may be
abbrev pub are_too_many : ℕ → ℕ → ℕ → Bool
are_too_many tenants kinds rows =
    nat_lt TEXT_TENANTS tenants
    || (nat_lt MOST_KINDS kinds || (nat_lt MOST_ROWS rows || nat_lt TEXT_PAIRS (tenants * kinds)))

-- reading has this fault, unless memory ran out
abbrev pub Fails : {Y : Type 0} → RecordError → Result Y TraceKind → Type 0
Fails (errors.Fault kind) read = read ≡ Err kind
Fails errors.NoMemory read = Unit {0}

-- the returned result is, seen by `view`, that of reading by the definitions
abbrev pub Gives : {X Y : Type 0} → (X → Y) → Result X RecordError → Result Y TraceKind → Type 0
Gives view (Ok x) read = read ≡ Ok (view x)
Gives view (Err e) read = Fails e read

-- reading a whole text has this fault at this place, unless memory ran out
abbrev pub IsFirstFault : {Y : Type 0} → TraceFault → Result Y (ℕ × TraceKind) → Type 0
IsFirstFault (faults.At line kind) read = read ≡ Err (line, kind)
IsFirstFault faults.NoMemory read = Unit {0}

-- a record's fault, with its place
abbrev pub fault_at : ℕ → RecordError → TraceFault
fault_at line (errors.Fault kind) = faults.At line kind
fault_at line errors.NoMemory = faults.NoMemory

-- a reader over a text in memory has read a record with these fields, or found that there is none
abbrev pub IsReadBy : Reader (Bor (List ℕ)) → Reader (Bor (List ℕ)) → Bool → Record → Type 0
IsReadBy old new found fields = ReadRecord (λ (b : Bor (List ℕ)). Some b.now) old new found fields
