-- Rows by ticket, with holes: what stands in the memory of an order, and its invariant.
use Rattle.std.specs.Prelude.{ℕ, ◌≡◌, ◌<◌, ◌≤◌, ◌*◌, ◌-◌, nat_lt, true, false, if◌then◌else◌, List, map, length, Some, None, slice_get, slice_index_or}
use Rattle.std.specs.List.{AllPairs, filter, find, HoldsAt}
use Rattle.waiting_table.specs.declared.row.Waiting.{Waiting}
use Rattle.waiting_table.specs.declared.order.Entry.{Entry}
use Rattle.waiting_table.specs.Table.{has_ticket}

-- the rows that wait
abbrev pub rows_of : List Entry → List Waiting
rows_of entries = map (λ e. e.row) (filter (λ e. e.waits) entries)

-- the tickets rise, those of the holes among them
abbrev pub EntriesRise : List Entry → Type 0
EntriesRise entries = AllPairs (λ e later. e.row.ticket < later.row.ticket) entries

-- no row of this ticket waits
abbrev pub HasNone : List Entry → ℕ → Type 0
HasNone entries ticket = find (has_ticket ticket) (rows_of entries) ≡ None

-- at this index stands a row that waits and has this ticket
pub record IsEntryOf (entries : List Entry) (ticket i : ℕ) : Type 0 where
  pub entry : Entry
  pub stands : slice_get entries i ≡ Some entry
  pub waits : entry.waits ≡ true
  pub ticket_is : entry.row.ticket ≡ ticket

-- the entries before this index have lesser tickets, and the others have this one or greater ones
pub record IsPlaceOf (entries : List Entry) (ticket i : ℕ) : Type 0 where
  pub within : i ≤ length entries
  pub before : (k : ℕ) (d : Entry) → k < i → (slice_index_or entries k d).row.ticket < ticket
  pub behind : (k : ℕ) (d : Entry) → i ≤ k → k < length entries → ticket ≤ (slice_index_or entries k d).row.ticket

-- so many entries are left without the holes at the end
pub record EndsAt (entries : List Entry) (n : ℕ) : Type 0 where
  pub within : n ≤ length entries
  pub holes : (k : ℕ) (d : Entry) → n ≤ k → k < length entries → (slice_index_or entries k d).waits ≡ false
  pub last : 0 < n → HoldsAt (λ e. e.waits ≡ true) entries (n - 1)

-- the entries without the holes, if more than half of them are holes: so many rows wait
abbrev pub squeezed : ℕ → List Entry → List Entry
squeezed waiting entries =
    if nat_lt (2 * waiting) (length entries) then filter (λ e. e.waits) entries else entries

-- The invariant of an order: tickets rise, at most half of the entries are holes, and there is memory for twice as many
-- entries as rows may wait.
pub record KeepsOrder (entries : List Entry) (waiting room capacity : ℕ) : Type 0 where
  pub rising : EntriesRise entries
  pub count : waiting ≡ length (rows_of entries)
  pub fits : waiting ≤ room
  pub half : length entries ≤ 2 * waiting
  pub reserved : 2 * room ≤ capacity
