-- Lawful traces, and the texts that they are printed as. Each line ends with LF.
use Rattle.std.specs.Prelude.{ℕ, ◌+◌, ◌*◌, ◌<◌, ◌≤◌, ◌≡◌, max, List, [], ◌∷◌, ◌++◌, length, map, All, slice_index_or, codes}
use Rattle.std.specs.Fmt.{decimal}
use Rattle.std.specs.List.Sorted.{IsNonDecreasing}
use Rattle.program_model.specs.declared.trace.TraceRow.{TraceRow}
use Rattle.vt_fixed.specs.declared.limits.TheConstants.{GREATEST_COST}
use Rattle.fq_model.specs.declared.limits.TheConstants.{TEXT_TENANTS, MOST_KINDS, TEXT_PAIRS, MOST_ROWS, GREATEST_TRACE_MOMENT, GREATEST_SUBMITTER}
use Rattle.fq_model.specs.Limits.{IsWithin, IsTextWeight}
use Rattle.fq_model.specs.Names.{AreNames}
use Rattle.program_model.specs.Trace.{Trace}

-- the numbers of a request are within their limits, where there are these numbers of tenants and kinds
pub record IsLawfulRow (tenants kinds : ℕ) (row : TraceRow) : Type 0 where
  pub moment : row.moment ≤ GREATEST_TRACE_MOMENT
  pub submitter : row.submitter ≤ GREATEST_SUBMITTER
  pub tenant : row.tenant < tenants
  pub kind : row.kind < kinds
  pub declared : IsWithin 1 GREATEST_COST row.declared
  pub cost : IsWithin 1 GREATEST_COST row.cost

-- there is a tenant and a kind, each tenant has a weight, no two tenants and no two kinds have the same name, all
-- numbers are within their limits, and moments do not fall
pub record IsLawfulTrace (t : Trace) : Type 0 where
  pub some_tenant : 0 < length t.tenants
  pub some_kind : 0 < length t.kinds
  pub tenants : AreNames TEXT_TENANTS t.tenants
  pub kinds : AreNames MOST_KINDS t.kinds
  pub pairs : length t.tenants * length t.kinds ≤ TEXT_PAIRS
  pub weighed : length t.weights ≡ length t.tenants
  pub weights : All IsTextWeight t.weights
  pub few : length t.rows ≤ MOST_ROWS
  pub rows : All (IsLawfulRow (length t.tenants) (length t.kinds)) t.rows
  pub in_order : IsNonDecreasing (map (λ row. row.moment) t.rows)

-- where `seen` kinds have appeared, these requests bring the next kinds in order, `kinds` of them in all
abbrev pub KindsAppear : ℕ → List TraceRow → ℕ → Type 0
KindsAppear seen [] kinds = seen ≡ kinds
KindsAppear seen (row ∷ rows) kinds = (row.kind ≤ seen) × KindsAppear (max seen (row.kind + 1)) rows kinds

-- the kinds are the one kind `-` where there are no requests, and else are in the order of their first requests
abbrev pub AreKindsOf : List TraceRow → List (List ℕ) → Type 0
AreKindsOf [] kinds = kinds ≡ codes "-" ∷ []
AreKindsOf rows kinds = KindsAppear 0 rows (length kinds)

-- the kinds of the trace are in this order, so that its text determines it
abbrev pub HasKindsInOrder : Trace → Type 0
HasKindsInOrder t = AreKindsOf t.rows t.kinds

-- `tenant,<name>,<weight>`
abbrev pub tenant_record : List ℕ → ℕ → List ℕ
tenant_record name weight = codes "tenant," ++ name ++ codes "," ++ decimal weight ++ codes "\n"

-- a line for each tenant, by number
abbrev pub tenant_records : List (List ℕ) → List ℕ → List ℕ
tenant_records (name ∷ names) (weight ∷ weights) = tenant_record name weight ++ tenant_records names weights
tenant_records _ _ = []

-- `request,<moment>,<submitter>,<tenant>,<kind>,<declared>,<cost>`, by the names of tenants and kinds
abbrev pub request_record : List (List ℕ) → List (List ℕ) → TraceRow → List ℕ
request_record tenants kinds row = codes "request,"
    ++ decimal row.moment ++ codes "," ++ decimal row.submitter ++ codes ","
    ++ slice_index_or tenants row.tenant [] ++ codes "," ++ slice_index_or kinds row.kind [] ++ codes ","
    ++ decimal row.declared ++ codes "," ++ decimal row.cost ++ codes "\n"

-- a line for each request, in order
abbrev pub request_records : List (List ℕ) → List (List ℕ) → List TraceRow → List ℕ
request_records tenants kinds [] = []
request_records tenants kinds (row ∷ rows) = request_record tenants kinds row ++ request_records tenants kinds rows

-- the tenants and then the requests
unfoldable pub trace_text : Trace → List ℕ
trace_text t = tenant_records t.tenants t.weights ++ request_records t.tenants t.kinds t.rows
