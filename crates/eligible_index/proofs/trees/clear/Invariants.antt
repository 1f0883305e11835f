use Rattle.std.proofs.Common.{None}
use Rattle.eligible_index.proofs.Fills.{IsFilledTo}
use Rattle.eligible_index.proofs.trees.clear.Given as goal

abbrev pub invariant-loop-leaf : goal.invariant-loop-leaf
invariant-loop-leaf l = IsFilledTo None l.initial.tree l.tree l.leaf
