use Rattle.std.proofs.Common.{◌<◌, ◌≤◌, ◌-◌, length, take, drop}
use Rattle.std.specs.List.{All}
use Rattle.shared_order.specs.Heads.{HeadBefore}
use Rattle.shared_order.specs.Blocks.{all_heads}
use Rattle.shared_order.proofs.order.block_of.Given as goal

abbrev pub invariant-halve : goal.invariant-halve
invariant-halve l = record {
  apart : l.low < l.high;
  within : l.high ≤ length l.blocks;
  before : All (λ other. HeadBefore other l.head) (all_heads (take l.low l.blocks));
  after : All (HeadBefore l.head) (all_heads (drop l.high l.blocks));
}

abbrev pub decreases-halve : goal.decreases-halve
decreases-halve l = l.high - l.low
