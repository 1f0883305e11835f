use Rattle.std.proofs.Common.{length}
use Rattle.shared_order.proofs.Grouping.{begins, sliced}
use Rattle.shared_order.proofs.groups.blocks_of.Goals as goal

pub returns : goal.returns
returns c = sliced c.args.blocks.now c.args.at c.min.result c.min.ensures (begins (length c.args.blocks.now) c.args.at c.requires)
