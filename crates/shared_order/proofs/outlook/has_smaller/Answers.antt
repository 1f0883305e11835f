use Rattle.shared_order.specs.Blocks.{all_heads}
use Rattle.shared_order.proofs.Smaller.{found_or_not}
use Rattle.shared_order.proofs.outlook.has_smaller.Goals as goal

pub returns-then-below-gt0 : goal.returns-then-below-gt0
returns-then-below-gt0 c = found_or_not c.args.turn (all_heads c.args.groups.now.used) c.args.weights.now c.args.below c.first_smaller.result c.is_some.result c.is_some.ensures c.first_smaller.ensures.first c.first_smaller.ensures.none
