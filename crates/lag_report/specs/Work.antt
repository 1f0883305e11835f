-- Work by slots, and a tenant's line of a report by the courses of its requests.
use Rattle.std.specs.Prelude.{ℕ, zero, suc, ◌-◌, ◌*◌, ◌/◌, ◌<◌, ◌≤◌, ◌≡◌, List, length, take, sum, sum_by, slice_index, ℤ, pos, ◌-ℤ◌}
use Rattle.vt_fixed.specs.declared.limits.TheConstants.{GREATEST_COST, GREATEST_MOMENT}
use Rattle.fq_model.specs.declared.limits.TheConstants.{MOST_CELLS, GREATEST_BACKLOG}
use Rattle.fq_model.specs.declared.lag.TenantLag.{TenantLag}
use Rattle.fq_model.specs.Sums.{list_below}
use Rattle.fluid_reference.specs.Slots.{column_of, number_at, owned_by, slot_at}
use Rattle.fq_model.specs.Lag.{work_between}
use Rattle.fq_model.specs.Ranks.{least_sample, percentile, greatest_sample}
use Rattle.lag_report.specs.declared.course.Course.{Course}

-- the work done on a request by m
abbrev pub worked : ℕ → Course → ℕ
worked m c = work_between c.taken c.ended c.cost m

-- the work that the first k slots of length Q see; no slot sees none
abbrev pub work_in : ℕ → ℕ → Course → ℕ
work_in Q zero c = 0
work_in Q (suc k) c = worked (suc k * Q) c

-- a request that was done in one of the first slots of length Q, with its numbers in their limits
pub record EndsWithin (Q slots : ℕ) (c : Course) : Type 0 where
  pub in_order : c.taken ≤ c.ended
  pub moment : c.ended ≤ GREATEST_MOMENT
  pub cost : c.cost ≤ GREATEST_COST
  pub slot : (c.ended - 1) / Q < slots

-- these gains of work, by slot, are those of these requests
abbrev pub GainsAre : ℕ → List Course → List ℕ → Type 0
GainsAre Q courses gains = (k : ℕ) → k ≤ length gains → sum (take k gains) ≡ sum_by (work_in Q k) courses

-- the lag after slot k: the service up to its end, less the work up to then
abbrev pub sample_at : List ℕ → (ℕ → ℕ) → ℕ → ℤ
sample_at served work k = pos (number_at served k) -ℤ pos (work (suc k))

-- the lags after each slot
abbrev pub samples_from : List ℕ → (ℕ → ℕ) → List ℤ
samples_from served work = list_below (sample_at served work) (length served)

-- the lags of a tenant with these requests
abbrev pub lags_from : List ℕ → List Course → ℕ → List ℤ
lags_from served courses Q = samples_from served (λ k. sum_by (work_in Q k) courses)

-- a report's line of a tenant with this weight, this service up to the end of each slot of length Q, and requests
-- with these courses
abbrev pub line_of : ℕ → List ℕ → List Course → ℕ → TenantLag
line_of weight served courses Q = record {
  weight = weight;
  requests = length courses;
  charged = sum_by (λ c. c.cost) courses;
  fluid = number_at served (length served - 1);
  least = least_sample (lags_from served courses Q);
  p50 = percentile 50 (lags_from served courses Q);
  p90 = percentile 90 (lags_from served courses Q);
  p99 = percentile 99 (lags_from served courses Q);
  greatest = greatest_sample (lags_from served courses Q);
}

-- ---- all tenants

-- a table by slots for this number of tenants: it has a slot, a cell for each slot and tenant and no more of them than
-- there may be, and no number above the limit
pub record IsTable (tenants : ℕ) (table : List (List ℕ)) : Type 0 where
  pub some : 1 ≤ length table
  pub few : length table * tenants ≤ MOST_CELLS
  pub tenants_are : (k : ℕ) → k < length table → length (slot_at table k) ≡ tenants
  pub low : (k t : ℕ) → k < length table → t < tenants → number_at (slot_at table k) t ≤ GREATEST_BACKLOG

-- a report's line of tenant t, by these weights, the courses of all requests and this table
abbrev pub line_for : List ℕ → List Course → List (List ℕ) → ℕ → ℕ → TenantLag
line_for weights courses table Q t =
    line_of (slice_index weights t) (column_of table t) (owned_by (λ c. c.tenant) t courses) Q
