-- The numbers of a lag report, and how long its slots are.
use Rattle.std.specs.Prelude.{ℕ, suc, ◌+◌, ◌*◌, ◌/◌, ◌^◌, ◌==◌, nat_le, Bool, not, ◌&&◌, if◌then◌else◌, List, [], ◌∷◌, map, length, Option, unwrap_or, slice_index, ℤ}
use Rattle.fq_model.specs.declared.config.Config.{Config}
use Rattle.fq_model.specs.declared.event.Act.{Act}
use Rattle.fq_model.specs.declared.event.Act.TheVariants.{Submit}
use Rattle.fq_model.specs.declared.lag.TenantLag.{TenantLag}
use Rattle.fq_model.specs.declared.limits.TheConstants.{MOST_CELLS}
use Rattle.fq_model.specs.Sums.{least_below, list_below}
use Rattle.fq_model.specs.History.{History, is_submitted, is_ended, request_bound}
use Rattle.fq_model.specs.Time.{last_moment}
use Rattle.fq_model.specs.Charge.{net_charge}
use Rattle.fq_model.specs.Fluid.{fluid_service}
use Rattle.fq_model.specs.Lag.{lag}
use Rattle.fq_model.specs.Ranks.{least_sample, percentile, greatest_sample}

-- ---- slots

-- how many slots of length Q a report has: the last of them holds the last entry's moment
abbrev pub slots_of : History → ℕ → ℕ
slots_of H Q = last_moment H / Q + 1

-- how many cells a report has: one for each slot and tenant
abbrev pub cells_of : Config → History → ℕ → ℕ
cells_of C H Q = slots_of H Q * length C.weights

-- the automatic slots: 1000 microseconds, and twice as long each time
abbrev pub doubled_slot : ℕ → ℕ
doubled_slot j = 1000 * 2 ^ j

-- a report with slots of this length has no more cells than it may
abbrev pub are_cells_few : Config → History → ℕ → Bool
are_cells_few C H Q = nat_le (cells_of C H Q) MOST_CELLS

-- the least of the automatic slots whose cells are few enough; doubled 40 times it is longer than any history, and its
-- cells are as many as the tenants
unfoldable pub auto_slot : Config → History → ℕ
auto_slot C H = doubled_slot (unwrap_or (least_below (λ j. are_cells_few C H (doubled_slot j)) 41) 0)

-- the slot that is asked for, where 0 asks for the automatic one
abbrev pub slot_for : Config → History → ℕ → ℕ
slot_for C H asked = if asked == 0 then auto_slot C H else asked

-- ---- a tenant's line

-- one more for a Submit of tenant t
abbrev pub with_submit_for : ℕ → Act → ℕ → ℕ
with_submit_for t (Submit request tenant kind declared label) older = if tenant == t then suc older else older
with_submit_for t _ older = older

-- the number of Submits of tenant t
abbrev pub submits_for : History → ℕ → ℕ
submits_for [] t = 0
submits_for (e ∷ P) t = with_submit_for t e.act (submits_for P t)

-- the lags of tenant t after each slot
abbrev pub samples_of : Config → History → ℕ → ℕ → List ℤ
samples_of C H Q t = list_below (λ k. lag C H Q t (suc k)) (slots_of H Q)

-- the row of tenant t in a report with slots of length Q: its weight is the configuration's
abbrev pub tenant_lag : Config → History → ℕ → ℕ → TenantLag
tenant_lag C H Q t = record {
  weight = slice_index C.weights t;
  requests = submits_for H t;
  charged = net_charge H t;
  fluid = fluid_service C H Q t (slots_of H Q);
  least = least_sample (samples_of C H Q t);
  p50 = percentile 50 (samples_of C H Q t);
  p90 = percentile 90 (samples_of C H Q t);
  p99 = percentile 99 (samples_of C H Q t);
  greatest = greatest_sample (samples_of C H Q t);
}

-- ---- the report

-- a report: the length and the number of its slots, the row of each tenant, by number, the moment of the last entry,
-- and the number of entries
pub record LagReport : Type 0 where
  pub slot : ℕ
  pub slots : ℕ
  pub rows : List TenantLag
  pub end : ℕ
  pub entries : ℕ

-- the report of a history with slots of length Q
abbrev pub lag_report : Config → History → ℕ → LagReport
lag_report C H Q = record {
  slot = Q;
  slots = slots_of H Q;
  rows = list_below (tenant_lag C H Q) (length C.weights);
  end = last_moment H;
  entries = length H;
}

-- the least lag of all tenants, after any slot
abbrev pub least_lag : List TenantLag → ℤ
least_lag rows = least_sample (map (λ row. row.least) rows)

-- the greatest lag of all tenants, after any slot
abbrev pub greatest_lag : List TenantLag → ℤ
greatest_lag rows = greatest_sample (map (λ row. row.greatest) rows)

-- r is submitted, and neither done nor withdrawn
abbrev pub is_unfinished : History → ℕ → Bool
is_unfinished H r = is_submitted H r && not (is_ended H r)

-- the least request that is submitted, and neither done nor withdrawn, if there is one
unfoldable pub unfinished : History → Option ℕ
unfinished H = least_below (is_unfinished H) request_bound
