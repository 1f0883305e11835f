use Rattle.std.proofs.Common.{subst}
use Rattle.shared_order.specs.Search.{TakesSoonest}
use Rattle.shared_order.proofs.Extents.{short_enough}
use Rattle.shared_order.proofs.search.with_block.Goals as goal

pub may_lead-requires : goal.may_lead-requires
may_lead-requires c = short_enough c.extent.result c.args.block.now c.extent.ensures c.requires

pub returns-then-may_lead : goal.returns-then-may_lead
returns-then-may_lead c = subst (λ heads. TakesSoonest c.args.turn c.args.best heads c.with_heads.result) c.heads.ensures.heads c.with_heads.ensures
