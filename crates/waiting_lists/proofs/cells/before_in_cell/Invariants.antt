use Rattle.std.proofs.Common.{length}
use Rattle.waiting_lists.proofs.Walks.{walk}
use Rattle.waiting_lists.proofs.Searches.{cell_links, IsLeftOf}
use Rattle.waiting_lists.proofs.cells.before_in_cell.Given as goal

abbrev pub invariant-loop-at : goal.invariant-loop-at
invariant-loop-at g l = IsLeftOf l.slots l.fn.first l.slot l.at

abbrev pub decreases-loop-at : goal.decreases-loop-at
decreases-loop-at g l = length (walk (cell_links l.slots) (length l.slots) l.at)
