-- Which deadline comes first.
use Rattle.std.specs.Prelude.{◌≡◌, ◌<◌, ◌≤◌, ◌⊎◌, Some, None}
use Rattle.std.specs.List.{All, Contains}
use Rattle.waiting_table.specs.declared.row.Due.{Due}
use Rattle.waiting_table.specs.declared.row.Waiting.{Waiting}
use Rattle.waiting_table.specs.Table.{TableView}

-- no row has a deadline
abbrev pub HasNoDeadline : TableView → Type 0
HasNoDeadline v = All (λ w. w.deadline ≡ None) v.rows

-- an earlier deadline comes first, and of equal ones the lesser ticket
abbrev pub IsNoLater : Due → Due → Type 0
IsNoLater d e = (d.deadline < e.deadline) ⊎ ((d.deadline ≡ e.deadline) × (d.ticket ≤ e.ticket))

-- a row has this ticket and this deadline
pub record IsDue (v : TableView) (d : Due) : Type 0 where
  pub row : Waiting
  pub waits : Contains v.rows row
  pub deadline_is : row.deadline ≡ Some d.deadline
  pub ticket_is : row.ticket ≡ d.ticket

-- and no other comes before it
pub record IsFirstDue (v : TableView) (d : Due) : Type 0 where
  pub due : IsDue v d
  pub first : (e : Due) → IsDue v e → IsNoLater d e
