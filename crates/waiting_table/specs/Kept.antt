-- The invariant of a table.
use Rattle.std.specs.Prelude.{ℕ, ◌≡◌, ◌<◌, ◌≤◌, ◌+◌, ◌^◌, ◌==◌, pos, nat_lt, List, length, Option, Some, option_map, IfSome, if◌then◌else◌}
use Rattle.std.specs.List.{All, Contains, count_by}
use Rattle.winner_tree.specs.declared.key.Key.{Key}
use Rattle.winner_tree.specs.Order.{key_of, HasKey}
use Rattle.waiting_table.specs.declared.row.Waiting.{Waiting}
use Rattle.waiting_table.specs.Table.{TableView, AreRising}

-- the places of rows and the free ones are in the room, and no place is among them twice
abbrev pub ArePlaces : List Waiting → List ℕ → ℕ → Type 0
ArePlaces rows free room = (place : ℕ)
    → count_by (λ w. w.place == place) rows + count_by (λ p. p == place) free ≤ (if nat_lt place room then 1 else 0)

-- the key of a row among the deadlines, if it has one
abbrev pub key_at : Waiting → Option Key
key_at w = option_map (λ deadline. record { a = pos deadline; b = pos w.ticket; c = 0 }) w.deadline

-- a row has this place and this key
pub record IsKeyed (rows : List Waiting) (place : ℕ) (key : Key) : Type 0 where
  pub row : Waiting
  pub waits : Contains rows row
  pub place_is : row.place ≡ place
  pub key_is : key_at row ≡ Some key

-- the keys by place are those of the rows
pub record AreKeys (rows : List Waiting) (keys : List (Option Key)) : Type 0 where
  pub of_rows : All (λ w. key_of keys w.place ≡ key_at w) rows
  pub others : (place : ℕ) (key : Key) → HasKey keys place key → IsKeyed rows place key

-- the numbers of a row fit 64 bits
abbrev pub IsInRange : Waiting → Type 0
IsInRange w = (w.ticket < 2 ^ 64) × IfSome w.deadline (λ d. d < 2 ^ 64)

-- The invariant of a table: tickets rise, each place is free or has a row, there is memory for all places to be free,
-- and the deadlines by place are those of the rows.
pub record KeepsTable (v : TableView) (free : List ℕ) (capacity : ℕ) (keys : List (Option Key)) : Type 0 where
  pub rising : AreRising v.rows
  pub in_range : All IsInRange v.rows
  pub places : ArePlaces v.rows free v.room
  pub all : length v.rows + length free ≡ v.room
  pub reserved : v.room ≤ capacity
  pub leaves : length keys ≡ v.room
  pub due : AreKeys v.rows keys
