use Rattle.winner_tree.proofs.Least.{winners_from_keeps}
use Rattle.winner_tree.proofs.tree.Tree.winners.Goals as goal

pub returns : goal.returns
returns c = rw (c.deref.ensures.value, ← c.self.view_is) (winners_from_keeps c.self.inside.keys.items c.self.inside.winners.items c.self.invariant)
