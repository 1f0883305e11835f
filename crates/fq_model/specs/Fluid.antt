-- The fluid reference: an ideal service in slots of one length, each of which the tenants share by weight.
use Rattle.std.specs.Prelude.{ℕ, zero, suc, ◌+◌, ◌-◌, ◌*◌, ◌≤◌, ◌≡◌, ◌==◌, nat_le, Bool, ◌&&◌, if◌then◌else◌, List, [], ◌∷◌, ◌++◌, map, length, sum_by, Option, Some, None}
use Rattle.std.specs.List.{list_all}
use Rattle.fq_model.specs.declared.config.Config.{Config}
use Rattle.fq_model.specs.declared.event.Act.{Act}
use Rattle.fq_model.specs.declared.event.Act.TheVariants.{Done, Weight, Workers}
use Rattle.fq_model.specs.declared.event.Entry.{Entry}
use Rattle.fq_model.specs.declared.fluid.FluidRow.{FluidRow}
use Rattle.fq_model.specs.declared.fluid.Change.{Change}
use Rattle.fq_model.specs.declared.fluid.What.{What}
use Rattle.fq_model.specs.declared.fluid.What.TheVariants as changed
use Rattle.fq_model.specs.declared.level.Backlog.{Backlog}
use Rattle.fq_model.specs.declared.level.Level.{Level}
use Rattle.fq_model.specs.Sums.{list_below}
use Rattle.fq_model.specs.History.{History, history_of, Request, request_at, is_submit_of, weight_at, pool_at}
use Rattle.fq_model.specs.Time.{last_moment}
use Rattle.fq_model.specs.Level.{gift, level}

-- ---- prefixes by moment

-- every moment is at most m
abbrev pub is_all_by : ℕ → History → Bool
is_all_by m P = list_all (λ e. nat_le e.moment m) P

-- the longest prefix whose moments are all at most m
abbrev pub prefix_at : History → ℕ → History
prefix_at [] m = []
prefix_at (e ∷ P) m = if is_all_by m (e ∷ P) then e ∷ P else prefix_at P m

-- moments do not fall
abbrev pub IsInOrder : History → Type 0
IsInOrder [] = Unit {0}
IsInOrder (e ∷ P) = (last_moment P ≤ e.moment) × IsInOrder P

-- the moment of the last entry whose act passes the test, if there is one
abbrev pub moment_of : (Act → Bool) → History → Option ℕ
moment_of test [] = None
moment_of test (e ∷ P) = if test e.act then Some e.moment else moment_of test P

-- the moment of the Submit of r, if it is submitted
abbrev pub submit_moment : History → ℕ → Option ℕ
submit_moment P r = moment_of (is_submit_of r) P

-- ---- the completed requests and the changes of a history

-- one more completed request, with its Submit, the moment of this and its cost
abbrev pub with_row_of : Option Request → Option ℕ → ℕ → List FluidRow → List FluidRow
with_row_of (Some q) (Some submit) cost older = older ++ record { tenant = q.tenant; submit = submit; cost = cost } ∷ []
with_row_of _ _ cost older = older

-- the completed requests after one act more
abbrev pub with_row : History → Act → List FluidRow → List FluidRow
with_row P (Done worker request cost) older = with_row_of (request_at P request) (submit_moment P request) cost older
with_row P _ older = older

-- the completed requests in the order of their Dones: their tenants, the moments of their Submits, and their costs
abbrev pub fluid_rows_of : History → List FluidRow
fluid_rows_of [] = []
fluid_rows_of (e ∷ P) = with_row P e.act (fluid_rows_of P)

-- the changes after one act more, at m
abbrev pub with_change : ℕ → Act → List Change → List Change
with_change m (Weight tenant weight) older = older ++ record { moment = m; what = changed.Weight tenant weight } ∷ []
with_change m (Workers count) older = older ++ record { moment = m; what = changed.Workers count } ∷ []
with_change m _ older = older

-- the changes of weights and of the number of workers, in order of time
abbrev pub changes_of : History → List Change
changes_of [] = []
changes_of (e ∷ P) = with_change e.moment e.act (changes_of P)

-- the act of a change
abbrev pub change_act : What → Act
change_act (changed.Weight tenant weight) = Weight tenant weight
change_act (changed.Workers count) = Workers count

-- a change as an entry, whose caller nothing reads
abbrev pub change_entry : Change → Entry
change_entry c = record { who = 0; moment = c.moment; act = change_act c.what }

-- the history that has just these changes, given in order of time
abbrev pub history_of_changes : List Change → History
history_of_changes changes = history_of (map change_entry changes)

-- ---- the service

-- the cost of a request of tenant t that was submitted by m
abbrev pub cost_by : ℕ → ℕ → FluidRow → ℕ
cost_by m t row = if (row.tenant == t) && nat_le row.submit m then row.cost else 0

-- the sum of the costs of the requests of tenant t that were submitted by m
abbrev pub costs_by : List FluidRow → ℕ → ℕ → ℕ
costs_by rows m t = sum_by (cost_by m t) rows

-- the backlog of tenant t at m, with its weight then, where `served` is the service of each tenant up to m
abbrev pub backlog_at : Config → List FluidRow → History → ℕ → (ℕ → ℕ) → ℕ → Backlog
backlog_at C rows H m served t = record { units = costs_by rows m t - served t; weight = weight_at C (prefix_at H m) t }

-- the backlogs of all tenants, by number
abbrev pub backlogs_at : Config → List FluidRow → History → ℕ → (ℕ → ℕ) → List Backlog
backlogs_at C rows H m served = list_below (backlog_at C rows H m served) (length C.weights)

-- the level of the slot of length Q that starts at m: the workers of that moment have Q units each
abbrev pub slot_level : Config → List FluidRow → History → ℕ → ℕ → (ℕ → ℕ) → Level
slot_level C rows H Q m served = level (pool_at C (prefix_at H m) * Q) (backlogs_at C rows H m served)

-- the gift of that slot to tenant t
abbrev pub slot_gift : Config → List FluidRow → History → ℕ → ℕ → (ℕ → ℕ) → ℕ → ℕ
slot_gift C rows H Q m served t = gift (slot_level C rows H Q m served) (backlog_at C rows H m served t)

-- the service of tenant t in the first k slots of length Q, of these requests, by the weights and the workers in H
unfoldable pub fluid : Config → List FluidRow → History → ℕ → ℕ → ℕ → ℕ
fluid C rows H Q t zero = 0
fluid C rows H Q t (suc k) = fluid C rows H Q t k + slot_gift C rows H Q (k * Q) (λ u. fluid C rows H Q u k) t

-- the fluid service of tenant t in the first k slots
abbrev pub fluid_service : Config → History → ℕ → ℕ → ℕ → ℕ
fluid_service C H Q t k = fluid C (fluid_rows_of H) H Q t k

-- the service of each tenant, by number, up to the end of each of the first slots
abbrev pub fluid_table : Config → List FluidRow → History → ℕ → ℕ → List (List ℕ)
fluid_table C rows H Q slots = list_below (λ k. list_below (λ t. fluid C rows H Q t (suc k)) (length C.weights)) slots

-- beside the requests, the fluid service depends on a history by its changes alone
abbrev pub ChangesSayAll : Type 0
ChangesSayAll = (C : Config) (rows : List FluidRow) (H : History) (Q t k : ℕ) → IsInOrder H →
    fluid C rows (history_of_changes (changes_of H)) Q t k ≡ fluid C rows H Q t k
