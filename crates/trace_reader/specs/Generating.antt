-- The results of the generator of traces, against the numbers that it is asked for.
use Rattle.std.specs.Prelude.{ℕ, ◌<◌, ◌≤◌, ◌≡◌, nat_lt, [], ◌∷◌, length, Option, None, Some, Result, Ok, Err}
use Rattle.fq_model.specs.declared.limits.TheConstants.{TEXT_TENANTS, MOST_KINDS, MOST_ROWS, GREATEST_TRACE_MOMENT}
use Rattle.fq_model.specs.Limits.{is_outside}
use Rattle.fq_model.specs.Rows.{first_true}
use Rattle.program_model.specs.Trace.{Trace, last_row_moment}
use Rattle.trace_reader.specs.declared.fault.GenFault.{GenFault}
use Rattle.trace_reader.specs.declared.fault.GenFault.TheVariants.{Tenants, Requests, NoMemory}

-- why no trace with these numbers of tenants and requests is generated, if none is
abbrev pub gen_refusal : ℕ → ℕ → Option GenFault
gen_refusal tenants requests = first_true
    ((is_outside 1 TEXT_TENANTS tenants, Tenants tenants)
    ∷ (nat_lt MOST_ROWS requests, Requests requests)
    ∷ [])

-- the fault is the reason; want of memory comes only where there is no other
abbrev pub IsReason : GenFault → Option GenFault → Type 0
IsReason NoMemory refusal = refusal ≡ None
IsReason fault refusal = refusal ≡ Some fault

-- where nothing speaks against a trace the result is a trace, unless memory runs out, and else it is the reason
abbrev pub FaultsOnly : {A : Type 0} → Result A GenFault → Option GenFault → Type 0
FaultsOnly (Ok trace) refusal = refusal ≡ None
FaultsOnly (Err fault) refusal = IsReason fault refusal

-- there is a tenant for one request more, and room for its kind and its moment
pub record HasRoomForOne (t : Trace) : Type 0 where
  pub tenants : 0 < length t.tenants
  pub kinds : length t.kinds < MOST_KINDS
  pub moment : last_row_moment t.rows ≤ GREATEST_TRACE_MOMENT
