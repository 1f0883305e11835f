-- Requests and changes in their limits, costs and settings at a slot's start, and the service by the levels of slots.
use Rattle.std.specs.Prelude.{ℕ, zero, suc, ◌+◌, ◌-◌, ◌*◌, ◌<◌, ◌≤◌, ◌≡◌, ◌==◌, nat_lt, Bool, if◌then◌else◌, List, [], filter, length, All, take, sum_by, count_by, slice_index_or}
use Rattle.std.specs.List.Sorted.{IsNonDecreasingBy}
use Rattle.vt_fixed.specs.declared.limits.TheConstants.{GREATEST_COST}
use Rattle.fq_model.specs.declared.limits.TheConstants.{TEXT_WORKERS, MOST_CELLS, TEXT_TENANTS, MOST_FLUID_ROWS, GREATEST_BACKLOG}
use Rattle.fq_model.specs.declared.config.Config.{Config}
use Rattle.fq_model.specs.declared.fluid.FluidRow.{FluidRow}
use Rattle.fq_model.specs.declared.fluid.Change.{Change}
use Rattle.fq_model.specs.declared.fluid.What.{What}
use Rattle.fq_model.specs.declared.fluid.What.TheVariants as changed
use Rattle.fq_model.specs.declared.level.Backlog.{Backlog}
use Rattle.fq_model.specs.declared.level.Level.{Level}
use Rattle.fq_model.specs.declared.level.Level.TheVariants as levels
use Rattle.fluid_reference.specs.declared.fault.FluidFault.{FluidFault}
use Rattle.fluid_reference.specs.declared.fault.FluidFault.TheVariants.{TooLong}
use Rattle.fq_model.specs.Limits.{IsTextWeight, IsWithin}
use Rattle.fq_model.specs.History.{History, weight_at, pool_at}
use Rattle.fq_model.specs.Level.{gift, level}
use Rattle.fq_model.specs.Sums.{list_below}
use Rattle.fq_model.specs.Fluid.{history_of_changes, fluid, fluid_table, slot_level, backlog_at, costs_by}

-- the numbers of a request are in their limits, for this number of tenants
pub record IsRowOf (tenants : ℕ) (row : FluidRow) : Type 0 where
  pub tenant : row.tenant < tenants
  pub cost : row.cost ≤ GREATEST_COST

-- so are the numbers that a change sets
abbrev pub SetsInRange : ℕ → What → Type 0
SetsInRange tenants (changed.Weight tenant weight) = (tenant < tenants) × IsTextWeight weight
SetsInRange tenants (changed.Workers count) = IsWithin 1 TEXT_WORKERS count

abbrev pub IsChangeOf : ℕ → Change → Type 0
IsChangeOf tenants change = SetsInRange tenants change.what

-- the request, the change, the number and the backlog at a place
abbrev pub row_of : List FluidRow → ℕ → FluidRow
row_of rows k = slice_index_or rows k (record { tenant = 0; submit = 0; cost = 0 })

abbrev pub change_of : List Change → ℕ → Change
change_of changes k = slice_index_or changes k (record { moment = 0; what = changed.Weight 0 0 })

abbrev pub backlog_at_place : List Backlog → ℕ → Backlog
backlog_at_place backlogs k = slice_index_or backlogs k (record { units = 0; weight = 0 })

abbrev pub number_at : List ℕ → ℕ → ℕ
number_at numbers k = slice_index_or numbers k 0

-- the cost of a request of tenant t
abbrev pub cost_of : ℕ → FluidRow → ℕ
cost_of t row = if row.tenant == t then row.cost else 0

-- each tenant's costs are those of its requests among these
abbrev pub CostsAre : List FluidRow → List ℕ → Type 0
CostsAre rows costs = (t : ℕ) → t < length costs → number_at costs t ≡ sum_by (cost_of t) rows

-- the requests up to a place have joined by a moment: they came by it, and each tenant's costs are theirs
pub record HaveJoined (sorted : List FluidRow) (at place : ℕ) (costs : List ℕ) : Type 0 where
  pub in_list : place ≤ length sorted
  pub theirs : CostsAre (take place sorted) costs
  pub before : All (λ r. r.submit ≤ at) (take place sorted)

-- tenant t has a backlog: its requests that joined cost more than it was served
abbrev pub has_backlog : List ℕ → List ℕ → ℕ → Bool
has_backlog costs served t = nat_lt (number_at served t) (number_at costs t)

-- these are the tenants that have a backlog, each of them once
abbrev pub AreBacklogged : List ℕ → List ℕ → List ℕ → Type 0
AreBacklogged costs served tenants =
    (t : ℕ) → count_by (λ u. u == t) tenants ≡ (if has_backlog costs served t then 1 else 0)

-- costs, services and weights of the tenants are in their limits
pub record CanShare (costs served weights : List ℕ) : Type 0 where
  pub few : length costs ≤ TEXT_TENANTS
  pub served_len : length served ≡ length costs
  pub weights_len : length weights ≡ length costs
  pub costs_low : (t : ℕ) → t < length costs → number_at costs t ≤ GREATEST_BACKLOG
  pub served_low : (t : ℕ) → t < length costs → number_at served t ≤ GREATEST_BACKLOG
  pub in_range : All IsTextWeight weights

-- the weights and the number of workers are those after these changes
pub record SettingIs (C : Config) (changes : List Change) (weights : List ℕ) (workers : ℕ) : Type 0 where
  pub tenants : length weights ≡ length C.weights
  pub each : (t : ℕ) → t < length C.weights → number_at weights t ≡ weight_at C (history_of_changes changes) t
  pub pool : workers ≡ pool_at C (history_of_changes changes)

-- the backlog of tenant t: the costs of its requests, less its service
abbrev pub want_of : List ℕ → List ℕ → List ℕ → ℕ → Backlog
want_of costs served weights t = record { units = number_at costs t - number_at served t; weight = number_at weights t }

-- the service of tenant t by the end of a slot of this level
abbrev pub served_after : Level → List Backlog → List ℕ → ℕ → ℕ
served_after l wants served t = number_at served t + gift l (backlog_at_place wants t)

-- the backlogs of all tenants
abbrev pub wants_of : List ℕ → List ℕ → List ℕ → List Backlog
wants_of costs served weights = list_below (want_of costs served weights) (length costs)

-- the service of each tenant by the end of a slot that shares cap
abbrev pub served_by : ℕ → List Backlog → List ℕ → ℕ → List ℕ
served_by cap wants served n = list_below (served_after (level cap wants) wants served) n

abbrev pub served_next : ℕ → List ℕ → List ℕ → List ℕ → List ℕ
served_next cap costs served weights = served_by cap (wants_of costs served weights) served (length costs)

-- the fluid service where these changes set the weights and the workers
abbrev pub table_of_changes : Config → List FluidRow → List Change → ℕ → ℕ → List (List ℕ)
table_of_changes C rows changes Q slots = fluid_table C rows (history_of_changes changes) Q slots

-- the level of slot k, and those of the first slots where these changes set the weights and the workers
abbrev pub level_of_slot : Config → List FluidRow → History → ℕ → ℕ → Level
level_of_slot C rows H Q k = slot_level C rows H Q (k * Q) (λ u. fluid C rows H Q u k)

abbrev pub levels_of : Config → List FluidRow → List Change → ℕ → ℕ → List Level
levels_of C rows changes Q slots = list_below (level_of_slot C rows (history_of_changes changes) Q) slots

-- a table has too many cells, and the fault that says so
abbrev pub IsTooLong : Config → ℕ → Type 0
IsTooLong C slots = MOST_CELLS < slots * length C.weights

abbrev pub too_long : Config → ℕ → FluidFault
too_long C slots = TooLong slots (length C.weights)

-- the fluid service in the first slots is at most the costs of the requests that came by the start of the last of them
abbrev pub ServesWhatCame : Type 0
ServesWhatCame = (C : Config) (rows : List FluidRow) (H : History) (Q t k : ℕ) →
    fluid C rows H Q t (suc k) ≤ costs_by rows (k * Q) t

-- the row of a slot in a table by slots, or [] where it has none, and the column of a tenant, slot by slot
abbrev pub slot_at : List (List ℕ) → ℕ → List ℕ
slot_at table k = slice_index_or table k []

abbrev pub column_of : List (List ℕ) → ℕ → List ℕ
column_of table t = list_below (λ k. number_at (slot_at table k) t) (length table)

-- ---- the service by the levels of slots

-- the tenant whose weight a change sets; a number that no tenant has, where it sets none
abbrev pub owner_of_set : What → ℕ
owner_of_set (changed.Weight tenant weight) = tenant
owner_of_set (changed.Workers count) = TEXT_TENANTS

abbrev pub owner_of : Change → ℕ
owner_of change = owner_of_set change.what

-- the items that belong to tenant t
abbrev pub owned_by : {A : Type 0} → (A → ℕ) → ℕ → List A → List A
owned_by owner t items = filter (λ x. owner x == t) items

-- the requests of tenant t, and the changes of its weight
abbrev pub rows_for : ℕ → List FluidRow → List FluidRow
rows_for t rows = owned_by (λ row. row.tenant) t rows

abbrev pub changes_for : ℕ → List Change → List Change
changes_for t changes = owned_by owner_of t changes

-- the requests of a tenant up to a place came by a moment, and this is the sum of their costs
pub record CameBy (own : List FluidRow) (at place cost : ℕ) : Type 0 where
  pub in_list : place ≤ length own
  pub theirs : cost ≡ sum_by (λ row. row.cost) (take place own)
  pub before : All (λ row. row.submit ≤ at) (take place own)

-- the changes up to a place came by a moment
pub record ChangedBy (changes : List Change) (at place : ℕ) : Type 0 where
  pub in_list : place ≤ length changes
  pub before : All (λ c. c.moment ≤ at) (take place changes)

-- the level of slot k; a slot beyond the list serves all whole
abbrev pub level_in : List Level → ℕ → Level
level_in slots k = slice_index_or slots k levels.All

-- the backlog of tenant t at m, after these services of the tenants, by the changes of its own weight
abbrev pub own_backlog : Config → List FluidRow → List Change → ℕ → (ℕ → ℕ) → ℕ → Backlog
own_backlog C rows changes m served t = backlog_at C rows (history_of_changes (changes_for t changes)) m served t

-- the service of tenant t in the first k slots of length Q, if these are their levels
unfoldable pub replayed : Config → List FluidRow → List Change → List Level → ℕ → ℕ → ℕ → ℕ
replayed C rows changes slots Q t zero = 0
replayed C rows changes slots Q t (suc k) = replayed C rows changes slots Q t k
    + gift (level_in slots k) (own_backlog C rows changes (k * Q) (λ u. replayed C rows changes slots Q u k) t)

-- this service of each tenant, by number, up to the end of each slot
abbrev pub replayed_table : Config → List FluidRow → List Change → List Level → ℕ → List (List ℕ)
replayed_table C rows changes slots Q =
    list_below (λ k. list_below (λ t. replayed C rows changes slots Q t (suc k)) (length C.weights)) (length slots)

-- no more requests than there may be, each in its limits for this number of tenants; requests and changes in the order
-- of their tenants, those of a tenant in order of time
pub record CanReplay (tenants : ℕ) (rows : List FluidRow) (changes : List Change) : Type 0 where
  pub few : length rows ≤ MOST_FLUID_ROWS
  pub in_range : All (IsRowOf tenants) rows
  pub rows_by_tenant : IsNonDecreasingBy (λ row. row.tenant) rows
  pub submits_in_order : (t : ℕ) → IsNonDecreasingBy (λ row. row.submit) (rows_for t rows)
  pub changes_by_tenant : IsNonDecreasingBy owner_of changes
  pub moments_in_order : (t : ℕ) → IsNonDecreasingBy (λ c. c.moment) (changes_for t changes)
