-- The view of a book in contracts, and the book after each call.
use Rattle.std.specs.Prelude.{ℕ, ◌+◌, ◌-◌, ◌*◌, ◌<◌, ◌≤◌, ◌^◌, ◌==◌, ◌≡◌, nat_lt, if◌then◌else◌, List, length, slice_index, slice_index_or, slice_set, sum_by, All, Option, Some, None, ℤ, pos}
use Rattle.charge_book.specs.declared.row.RunRow.{RunRow}
use Rattle.charge_book.specs.declared.refusal.BookRefusal.{BookRefusal}
use Rattle.charge_book.specs.declared.refusal.BookRefusal.TheVariants.{NotRunning, CostRange, Falling}
use Rattle.vt_fixed.specs.declared.limits.TheConstants.{GREATEST_COST, GREATEST_WEIGHT}
use Rattle.fq_laws.specs.Changes.{length_change}
use Rattle.charge_book.specs.Rows.{row_charge}

-- the rows of the running requests, by worker; the net charges, by tenant; and how many requests were begun
pub record BookView : Type 0 where
  pub rows : List (Option RunRow)
  pub nets : List ℕ
  pub begins : ℕ

-- the row on a worker
abbrev pub row_on : BookView → ℕ → Option RunRow
row_on b worker = slice_index_or b.rows worker None

-- why a use or a cost of the request of this row is refused, if it is
abbrev pub row_refusal : Option RunRow → ℕ → Option BookRefusal
row_refusal None used = Some NotRunning
row_refusal (Some row) used =
    if nat_lt GREATEST_COST used then Some (CostRange used)
    else if nat_lt used row.last then Some (Falling row.last used)
    else None

abbrev pub use_refusal : BookView → ℕ → ℕ → Option BookRefusal
use_refusal b worker used = row_refusal (row_on b worker) used

-- this row runs on the worker, and a use or a cost of it is not refused
pub record MayUse (b : BookView) (worker : ℕ) (row : RunRow) (used : ℕ) : Type 0 where
  pub row_is : row_on b worker ≡ Some row
  pub accepted : use_refusal b worker used ≡ None

-- the books are of as many workers and as many tenants
pub record SameSizes (b c : BookView) : Type 0 where
  pub workers : length c.rows ≡ length b.rows
  pub tenants : length c.nets ≡ length b.nets

-- a request that was just taken
abbrev pub row_of_run : ℕ → ℕ → ℕ → ℕ → ℕ → RunRow
row_of_run request tenant kind weight estimate =
    record { request = request; tenant = tenant; kind = kind; weight = weight; estimate = estimate; last = 0 }

-- the worker runs the request of this row, which is charged to its tenant
abbrev pub begun : BookView → ℕ → RunRow → BookView
begun b worker row = record {
  rows = slice_set b.rows worker (Some row);
  nets = slice_set b.nets row.tenant (slice_index b.nets row.tenant + row.estimate);
  begins = b.begins + 1;
}

-- the net charges where the charge of this row becomes `charge`
abbrev pub nets_recharged : List ℕ → RunRow → ℕ → List ℕ
nets_recharged nets row charge = slice_set nets row.tenant (slice_index nets row.tenant - row_charge row + charge)

-- the worker has the row `next`, and the charge of its row becomes `charge`
abbrev pub recharged : BookView → ℕ → RunRow → Option RunRow → ℕ → BookView
recharged b worker row next charge =
    record { rows = slice_set b.rows worker next; nets = nets_recharged b.nets row charge; begins = b.begins }

-- the row after a use
abbrev pub with_use : RunRow → ℕ → RunRow
with_use row used = record row { last = used }

abbrev pub reported_at : BookView → ℕ → Option RunRow → ℕ → BookView
reported_at b worker None used = b
reported_at b worker (Some row) used =
    recharged b worker row (Some (with_use row used)) (row_charge (with_use row used))

-- the book after a use of the worker's request
abbrev pub reported : BookView → ℕ → ℕ → BookView
reported b worker used = reported_at b worker (row_on b worker) used

abbrev pub report_change_at : Option RunRow → ℕ → ℤ
report_change_at None used = pos 0
report_change_at (Some row) used = length_change row.weight (row_charge row) (row_charge (with_use row used))

-- by how much that changes the virtual charge of its tenant
abbrev pub report_change : BookView → ℕ → ℕ → ℤ
report_change b worker used = report_change_at (row_on b worker) used

abbrev pub finished_at : BookView → ℕ → Option RunRow → ℕ → BookView
finished_at b worker None cost = b
finished_at b worker (Some row) cost = recharged b worker row None cost

-- the book after the worker's request is done at this cost
abbrev pub finished : BookView → ℕ → ℕ → BookView
finished b worker cost = finished_at b worker (row_on b worker) cost

abbrev pub finish_change_at : Option RunRow → ℕ → ℤ
finish_change_at None cost = pos 0
finish_change_at (Some row) cost = length_change row.weight (row_charge row) cost

-- by how much that changes the virtual charge of its tenant
abbrev pub finish_change : BookView → ℕ → ℕ → ℤ
finish_change b worker cost = finish_change_at (row_on b worker) cost

-- ---- the invariant of a book

-- the numbers of a running request are in their limits
pub record IsRunRow (tenants : ℕ) (row : RunRow) : Type 0 where
  pub tenant : row.tenant < tenants
  pub weight_positive : 1 ≤ row.weight
  pub weight_in_range : row.weight ≤ GREATEST_WEIGHT
  pub estimate : row.estimate ≤ GREATEST_COST
  pub last : row.last ≤ GREATEST_COST

abbrev pub IsRow : ℕ → Option RunRow → Type 0
IsRow tenants None = Unit {0}
IsRow tenants (Some row) = IsRunRow tenants row

-- the charge of a worker's request, as far as it is tenant t's
abbrev pub owed : ℕ → Option RunRow → ℕ
owed t None = 0
owed t (Some row) = if row.tenant == t then row_charge row else 0

-- and the further charge that it may still have
abbrev pub spare : ℕ → Option RunRow → ℕ
spare t None = 0
spare t (Some row) = if row.tenant == t then GREATEST_COST - row_charge row else 0

-- each net charge covers the charges of its tenant's running requests, and has room for their further charges
pub record IsSound (rows : List (Option RunRow)) (nets : List ℕ) (begins : ℕ) : Type 0 where
  pub in_range : All (IsRow (length nets)) rows
  pub covers : (t : ℕ) → t < length nets → sum_by (owed t) rows ≤ slice_index nets t
  pub room : (t : ℕ) → t < length nets → slice_index nets t + sum_by (spare t) rows ≤ begins * GREATEST_COST
  pub few : begins ≤ 2 ^ 32
