-- The invariant of the slots, the cells and the ends.
use Rattle.std.specs.Prelude.{ℕ, ◌≡◌, ◌<◌, ◌≤◌, List, Option, length}
use Rattle.waiting_lists.specs.declared.links.Slot.{Slot}
use Rattle.waiting_lists.specs.declared.links.Ends.{Ends}
use Rattle.waiting_lists.specs.Linked.{lists_of, count_of, Keeps}
use Rattle.waiting_lists.specs.Cells.{number_at, KeepsIndex}

module _ {J : Type 0} (slots : List (Slot J)) (cells : List (Option ℕ)) (ends : List (Option Ends)) where
  -- the slots are lists, and are found by the numbers of their requests
  pub record Kept (free : Option ℕ) : Type 0 where
    pub links : Keeps slots ends free
    pub index : KeepsIndex (number_at slots) cells slots
    pub some : 0 < length cells

  -- that, the number of items, no more slots than there may be, and memory for as many as there may be
  pub record KeepsCount (free : Option ℕ) (len room capacity : ℕ) : Type 0 where
    pub kept : Kept free
    pub counted : len ≡ count_of (lists_of slots ends)
    pub within : length slots ≤ room
    pub reserved : room ≤ capacity
