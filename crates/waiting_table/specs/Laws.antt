-- Laws of tables: what is found after each change, a walk over all rows, and the first deadline.
use Rattle.std.specs.Prelude.{ℕ, zero, suc, ◌≡◌, ◌==◌, ◌+◌, ◌≤◌, List, [], ◌∷◌, length, Option, Some, None, option_map, if◌then◌else◌}
use Rattle.waiting_table.specs.declared.row.Due.{Due}
use Rattle.waiting_table.specs.declared.row.Waiting.{Waiting}
use Rattle.waiting_table.specs.Table.{TableView, IsAbove, IsTable, first_from, forwarded, numbered, row_of, with_row, without}
use Rattle.waiting_table.specs.Due.{IsFirstDue}

-- what comes is found, and all else as before
abbrev pub AddedIsFound : Type 0
AddedIsFound = (v : TableView) (w : Waiting) (ticket : ℕ) → IsAbove v w.ticket
    → row_of (with_row v w) ticket ≡ (if ticket == w.ticket then Some w else row_of v ticket)

-- what is removed is found no more, and all else as before
abbrev pub RemovedIsGone : Type 0
RemovedIsGone = (v : TableView) (removed ticket : ℕ)
    → row_of (without v removed) ticket ≡ (if ticket == removed then None else row_of v ticket)

-- what is forwarded is found with its number, and all else as before
abbrev pub ForwardedIsFound : Type 0
ForwardedIsFound = (v : TableView) (sent request ticket : ℕ)
    → row_of (forwarded v sent request) ticket ≡ option_map (numbered sent request) (row_of v ticket)

-- a row, and what the walk behind its ticket meets
abbrev pub met : (ℕ → List Waiting) → Option Waiting → List Waiting
met walk_from None = []
met walk_from (Some w) = w ∷ walk_from (w.ticket + 1)

-- the rows that a walk of so many steps meets, from a ticket on: each step asks for the first row from there, and the
-- next one goes on behind its ticket
abbrev pub walk : ℕ → TableView → ℕ → List Waiting
walk zero v from = []
walk (suc steps) v from = met (walk steps v) (first_from v from)

-- a walk from the least ticket on, of steps enough, meets each row once, in order
abbrev pub WalkMeetsEach : Type 0
WalkMeetsEach = (v : TableView) (steps : ℕ) → IsTable v → length v.rows ≤ steps → walk steps v 0 ≡ v.rows

-- at most one deadline is the first
abbrev pub FirstDueIsUnique : Type 0
FirstDueIsUnique = (v : TableView) (d e : Due) → IsFirstDue v d → IsFirstDue v e → d ≡ e
