-- The lengths of the requests of two tenants, by their charges.
use Rattle.std.specs.Prelude.{ℕ, ◌≤◌, ◌<◌, ◌≡◌, ◌==◌, max, min, Bool, true, false, if◌then◌else◌}
use Rattle.std.specs.Prelude.{List, length, slice_index, slice_set, Option, Some, None}
use Rattle.vt_fixed.specs.Rounding.{length_of}
use Rattle.vt_fixed.specs.declared.limits.TheConstants.{GREATEST_COST, GREATEST_WEIGHT}
use Rattle.fq_model.specs.declared.config.Config.{Config}
use Rattle.fq_model.specs.declared.event.Act.{Act}
use Rattle.fq_model.specs.declared.event.Act.TheVariants.{Take, Report, Done}
use Rattle.fq_model.specs.History.{History}
use Rattle.fq_model.specs.Lead.{longest_of, shortest_of}
use Rattle.charge_book.specs.declared.row.RunRow.{RunRow}
use Rattle.charge_book.specs.Rows.{row_charge}
use Rattle.charge_book.specs.Histories.{row_of_worker}
use Rattle.tag_lead.specs.declared.spans.MeasuredLength.{MeasuredLength}

-- ---- the length that an act measures

-- the charge and the weight are in their limits
pub record Measurable (row : RunRow) (charge : ℕ) : Type 0 where
  pub charge_low : charge ≤ GREATEST_COST
  pub weight_positive : 1 ≤ row.weight
  pub weight_in_range : row.weight ≤ GREATEST_WEIGHT

-- the charge and the weight of the request of the act are in their limits
abbrev pub CanMeasure : Act → (before after : Option RunRow) → Type 0
CanMeasure (Take worker request estimate) before (Some row) = Measurable row (row_charge row)
CanMeasure (Report worker request used) before (Some row) = Measurable row (row_charge row)
CanMeasure (Done worker request cost) (Some row) after = Measurable row cost
CanMeasure _ before after = Unit {0}

-- the length of the request of this row at this charge
abbrev pub measured_length : RunRow → ℕ → Bool → MeasuredLength
measured_length row charge taken = record {
  request = row.request;
  tenant = row.tenant;
  len = length_of charge row.weight;
  taken = taken;
}

-- the length of the request that an act takes, reports or ends, by the rows of its worker before the act and after it
abbrev pub measured_by : Act → (before after : Option RunRow) → Option MeasuredLength
measured_by (Take worker request estimate) before (Some row) = Some (measured_length row (row_charge row) true)
measured_by (Report worker request used) before (Some row) = Some (measured_length row (row_charge row) false)
measured_by (Done worker request cost) (Some row) after = Some (measured_length row cost false)
measured_by _ before after = None

-- the request that the worker of the act runs, if the act has a worker
abbrev pub row_of_act : Config → History → Act → Option RunRow
row_of_act C P (Take worker request estimate) = row_of_worker C P worker
row_of_act C P (Report worker request used) = row_of_worker C P worker
row_of_act C P (Done worker request cost) = row_of_worker C P worker
row_of_act C P _ = None

-- the worker of the act, if it has one, is one of the configuration
abbrev pub HasWorker : Config → Act → Type 0
HasWorker C (Take worker request estimate) = worker < C.workers
HasWorker C (Report worker request used) = worker < C.workers
HasWorker C (Done worker request cost) = worker < C.workers
HasWorker C _ = Unit {0}

-- ---- the lists with one length more

-- the greatest lengths of tenant t, by request, with that which an act measures
abbrev pub longest_with : List ℕ → ℕ → Option MeasuredLength → List ℕ
longest_with xs t None = xs
longest_with xs t (Some x) =
    if x.tenant == t then slice_set xs x.request (max (slice_index xs x.request) x.len) else xs

-- the length at a Take, and later the lesser of this length and the one before
abbrev pub lesser : MeasuredLength → ℕ → ℕ
lesser x before = if x.taken then x.len else min before x.len

-- the least lengths of tenant t
abbrev pub shortest_with : List ℕ → ℕ → Option MeasuredLength → List ℕ
shortest_with xs t None = xs
shortest_with xs t (Some x) =
    if x.tenant == t then slice_set xs x.request (lesser x (slice_index xs x.request)) else xs

-- ---- the lists of a history

-- the greatest length of each request of tenant t with a number below n
pub record LongestAre (C : Config) (P : History) (t n : ℕ) (xs : List ℕ) : Type 0 where
  pub sized : length xs ≡ n
  pub each : (r : ℕ) → r < n → slice_index xs r ≡ longest_of C P t r

-- the least length of each
pub record ShortestAre (C : Config) (P : History) (t n : ℕ) (xs : List ℕ) : Type 0 where
  pub sized : length xs ≡ n
  pub each : (r : ℕ) → r < n → slice_index xs r ≡ shortest_of C P t r
