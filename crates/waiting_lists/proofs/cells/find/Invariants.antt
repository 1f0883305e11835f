use Rattle.std.proofs.Common.{length}
use Rattle.waiting_lists.proofs.Walks.{walk}
use Rattle.waiting_lists.proofs.Searches.{cell_links, IsLeft}
use Rattle.waiting_lists.proofs.cells.find.Given as goal

abbrev pub invariant-loop-at : goal.invariant-loop-at
invariant-loop-at g l = IsLeft l.slots l.request l.at

abbrev pub decreases-loop-at : goal.decreases-loop-at
decreases-loop-at g l = length (walk (cell_links l.slots) (length l.slots) l.at)
