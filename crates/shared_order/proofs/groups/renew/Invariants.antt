use Rattle.std.proofs.Common.{◌≡◌, length, vec_capacity}
use Rattle.shared_order.specs.Groups.{AreLengths}
use Rattle.shared_order.proofs.groups.renew.Given as goal

abbrev pub invariant-loop-group : goal.invariant-loop-group
invariant-loop-group l = record {
  each : AreLengths l.blocks l.lengths.items;
  count : length l.lengths.items ≡ l.group;
  capacity : vec_capacity l.lengths ≡ vec_capacity l.fn.lengths;
}
