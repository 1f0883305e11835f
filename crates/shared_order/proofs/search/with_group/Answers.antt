use Rattle.shared_order.specs.Blocks.{all_heads}
use Rattle.shared_order.proofs.Extents.{short_enough}
use Rattle.shared_order.proofs.search.with_group.Goals as goal

pub may_lead-requires : goal.may_lead-requires
may_lead-requires c = short_enough c.args.group.now (all_heads c.args.blocks.now) c.requires.extent c.requires.in_range
