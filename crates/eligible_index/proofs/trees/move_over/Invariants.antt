use Rattle.eligible_index.proofs.Moves.{IsMovedTo, count_keys}
use Rattle.eligible_index.proofs.trees.move_over.Given as goal

abbrev pub invariant-over : goal.invariant-over
invariant-over l = IsMovedTo l.at l.initial.later l.initial.eligible l.later l.eligible

abbrev pub decreases-over : goal.decreases-over
decreases-over l = count_keys l.later
