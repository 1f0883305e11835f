use Rattle.std.proofs.Common.{◌≡◌, take}
use Rattle.shared_order.specs.Heads.{lengths_of}
use Rattle.shared_order.specs.Blocks.{all_heads}
use Rattle.shared_order.proofs.groups.lengths_in.Given as goal

abbrev pub invariant-loop-block : goal.invariant-loop-block
invariant-loop-block l = l.lengths ≡ lengths_of (all_heads (take l.block-index l.blocks))
