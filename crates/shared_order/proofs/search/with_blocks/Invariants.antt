use Rattle.std.proofs.Common.{take}
use Rattle.shared_order.specs.Blocks.{all_heads}
use Rattle.shared_order.specs.Search.{TakesSoonest}
use Rattle.shared_order.proofs.search.with_blocks.Given as goal

abbrev pub invariant-loop-block : goal.invariant-loop-block
invariant-loop-block l = TakesSoonest l.turn l.fn.best (all_heads (take l.block-index l.blocks)) l.best
