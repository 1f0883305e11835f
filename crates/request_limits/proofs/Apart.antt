-- Cells of different slots or kinds are different.
use Rattle.std.proofs.Common.{ℕ, ◌≢◌, List, [], sum, ap, inl, inr, length}
use Rattle.std.proofs.lemmas.List.{get_or-set_same, get_or-set_other}
use Rattle.std.proofs.lemmas.List.Sums.{sum_by-set}
use Rattle.std.proofs.lemmas.Nat.{same_from_place}
use Rattle.request_limits.specs.declared.held.Held.{Held}
use Rattle.request_limits.specs.Limits.{LimitsView, HasCell, HasCells, kinds, cell_of}
use Rattle.request_limits.specs.Laws.{HasOtherCell, SentChangesAlone, HeldChangesAlone, CellsAreApart}
use Rattle.request_limits.proofs.Rows.{row_other}
use Rattle.request_limits.proofs.Sends.{cell_sent, cell_held, sent_in_with, sent_of_with}

module _ (v : LimitsView) (slot kind : ℕ) (known : HasCell v slot kind) where
  other_cell : (s k : ℕ) → HasOtherCell v slot kind s k → cell_of v s k ≢ cell_of v slot kind
  other_cell s k other same =
      let parts = same_from_place s k slot kind (kinds v) other.0.kind_known known.kind_known same in
      elim other.1 [ inl ne ↦ ne parts.0 | inr ne ↦ ne parts.1 ]

  module _ (cells : HasCells v) where
    sent_alone : (n : ℕ) → SentChangesAlone v slot kind n
    sent_alone n = record {
      here = sent_in_with v slot kind cells known n;
      there = λ s k other. get_or-set_other v.sent (cell_of v slot kind) (cell_of v s k) n 0 (other_cell s k other);
      sum_here = sent_of_with v slot kind cells known n;
      sum_there = λ s ne. ap (λ row. sum row) (row_other (kinds v) v.sent slot kind known.kind_known (cell_sent v slot kind cells known) s n ne);
    }

    held_alone : (list : List Held) → HeldChangesAlone v slot kind list
    held_alone list = record {
      here = get_or-set_same v.held (cell_of v slot kind) list [] (cell_held v slot kind cells known);
      there = λ s k other. get_or-set_other v.held (cell_of v slot kind) (cell_of v s k) list [] (other_cell s k other);
      counted = sum_by-set (λ (l : List Held). length l) v.held (cell_of v slot kind) list [] (cell_held v slot kind cells known);
    }

pub cells_are_apart : CellsAreApart
cells_are_apart v slot kind cells known = (sent_alone v slot kind known cells, held_alone v slot kind known cells)
