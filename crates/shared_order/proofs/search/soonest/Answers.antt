use Rattle.std.proofs.Common.{subst, sym, ap}
use Rattle.shared_order.specs.Blocks.{all_heads}
use Rattle.shared_order.specs.Search.{AreInRange, TakesSoonest}
use Rattle.shared_order.proofs.Looking.{group_range, soonest_group}
use Rattle.shared_order.proofs.search.soonest.Goals as goal

pub with_group-best-requires-clause-in_range : goal.with_group-best-requires-clause-in_range
with_group-best-requires-clause-in_range c =
    subst AreInRange (ap all_heads (sym c.group.ensures)) (group_range c.args.groups.now.used c.loop-at.at c.requires.in_range)

pub loop-at-preserved : goal.loop-at-preserved
loop-at-preserved c =
    soonest_group c.args.groups.now.used c.loop-at.at c.args.turn c.loop-at.best c.with_group-best.result c.requires.kept.sorted c.loop-at.invariant (subst (λ heads. TakesSoonest c.args.turn c.loop-at.best heads c.with_group-best.result) (ap all_heads c.group.ensures) c.with_group-best.ensures)
