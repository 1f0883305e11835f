use Rattle.winner_tree.proofs.Steps.{IsOnWay}
use Rattle.winner_tree.proofs.replay.set_leaf.Given as goal

abbrev pub invariant-way : goal.invariant-way
invariant-way l = IsOnWay l.fn.keys l.keys l.winners l.leaf l.node l.winner

abbrev pub decreases-way : goal.decreases-way
decreases-way l = l.node
