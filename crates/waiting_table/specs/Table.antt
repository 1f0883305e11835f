-- The view of a table in contracts, and what is read from it.
use Rattle.std.specs.Prelude.{ℕ, ◌≢◌, ◌<◌, ◌≤◌, ◌==◌, not, nat_le, Bool, List, [], ◌∷◌, ◌++◌, map, length, Option, Some, if◌then◌else◌}
use Rattle.std.specs.List.{All, AllPairs, filter, find}
use Rattle.waiting_table.specs.declared.row.Coming.{Coming}
use Rattle.waiting_table.specs.declared.row.Waiting.{Waiting}

-- the rows in the order of their tickets, and how many there may be
pub record TableView : Type 0 where
  pub rows : List Waiting
  pub room : ℕ

abbrev pub has_ticket : ℕ → Waiting → Bool
has_ticket ticket w = w.ticket == ticket

-- the row of this ticket, if it waits
abbrev pub row_of : TableView → ℕ → Option Waiting
row_of v ticket = find (has_ticket ticket) v.rows

-- the first row of which the ticket is this or a greater one, if there is one
abbrev pub first_from : TableView → ℕ → Option Waiting
first_from v ticket = find (λ w. nat_le ticket w.ticket) v.rows

-- ---- changes

-- the row of a request that comes, at this place
abbrev pub row_at : ℕ → Coming → Waiting
row_at place c = record {
  ticket = c.ticket;
  place = place;
  slot = c.slot;
  kind = c.kind;
  declared = c.declared;
  deadline = c.deadline;
  label = c.label;
  came = c.came;
  request = c.request;
}

-- this row comes behind the others
abbrev pub with_row : TableView → Waiting → TableView
with_row v w = record v { rows = v.rows ++ w ∷ [] }

-- the row of this ticket is gone, if there was one, and the others stay in order
abbrev pub without : TableView → ℕ → TableView
without v ticket = record v { rows = filter (λ w. not (has_ticket ticket w)) v.rows }

-- the row has this number in the scheduler, if it has this ticket; another is as it was
abbrev pub numbered : ℕ → ℕ → Waiting → Waiting
numbered ticket request w = if has_ticket ticket w then record w { request = Some request } else w

-- the row of this ticket has this number in the scheduler, if there is one, and the others are as they were
abbrev pub forwarded : TableView → ℕ → ℕ → TableView
forwarded v ticket request = record v { rows = map (numbered ticket request) v.rows }

-- ---- what holds of tables

-- each ticket is above those before it
abbrev pub AreRising : List Waiting → Type 0
AreRising rows = AllPairs (λ w later. w.ticket < later.ticket) rows

-- this ticket is above all that wait
abbrev pub IsAbove : TableView → ℕ → Type 0
IsAbove v ticket = All (λ w. w.ticket < ticket) v.rows

-- nobody has this place
abbrev pub IsFree : TableView → ℕ → Type 0
IsFree v place = (place < v.room) × All (λ w. w.place ≢ place) v.rows

-- tickets rise, no two rows have one place, and all places are in the room
pub record IsTable (v : TableView) : Type 0 where
  pub rising : AreRising v.rows
  pub apart : AllPairs (λ w other. w.place ≢ other.place) v.rows
  pub within : All (λ w. w.place < v.room) v.rows
  pub fits : length v.rows ≤ v.room
