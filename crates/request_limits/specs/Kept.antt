-- The invariant of the limits.
use Rattle.std.specs.Prelude.{ℕ, ◌≡◌, ◌==◌, ◌<◌, ◌≤◌, List, length, map, sum_by, count_by, slice_index}
use Rattle.waiting_lists.specs.declared.item.Item.{Item}
use Rattle.waiting_lists.specs.Lists.{ListsView}
use Rattle.request_limits.specs.declared.held.Held.{Held}
use Rattle.request_limits.specs.Limits.{LimitsView, HasCells, slots, sent_of}

-- a list has the places of requests as the numbers of its items, and the tickets as their jobs
abbrev pub held_of : Item ℕ → Held
held_of i = record { ticket = i.job; place = i.request }

abbrev pub held_lists : List (List (Item ℕ)) → List (List Held)
held_lists lists = map (λ list. map held_of list) lists

-- what contracts see of the limits and counts, by kind, by slot and by cell, and of the lists of held requests
abbrev pub view_of : List ℕ → List ℕ → List ℕ → ListsView ℕ → LimitsView
view_of kind_limits limits sent lists = record {
  kind_limits = kind_limits;
  limits = limits;
  sent = sent;
  held = held_lists lists.lists;
  room = lists.slots;
}

-- how many of some held requests have this place
abbrev pub count_at : ℕ → List Held → ℕ
count_at place list = count_by (λ h. h.place == place) list

abbrev pub all_at : LimitsView → ℕ → ℕ
all_at v place = sum_by (count_at place) v.held

-- each total is what its slot has forwarded, over all kinds
pub record AreTotals (v : LimitsView) (totals : List ℕ) : Type 0 where
  pub size : length totals ≡ slots v
  pub sums : (slot : ℕ) → slot < slots v → slice_index totals slot ≡ sent_of v slot

-- the cells and the totals are as they should be, and no two held requests have one place
pub record Keeps (v : LimitsView) (totals : List ℕ) : Type 0 where
  pub cells : HasCells v
  pub totals_are : AreTotals v totals
  pub single : (place : ℕ) → all_at v place ≤ 1
