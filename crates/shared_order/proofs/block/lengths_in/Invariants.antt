use Rattle.std.proofs.Common.{◌≡◌, take}
use Rattle.shared_order.specs.Heads.{lengths_of}
use Rattle.shared_order.proofs.block.lengths_in.Given as goal

abbrev pub invariant-loop-head : goal.invariant-loop-head
invariant-loop-head l = l.lengths ≡ lengths_of (take l.head-index l.heads)
