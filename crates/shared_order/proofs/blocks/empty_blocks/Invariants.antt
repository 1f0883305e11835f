use Rattle.std.proofs.Common.{◌≡◌, ◌≤◌, [], length, vec_capacity}
use Rattle.std.specs.List.{All}
use Rattle.shared_order.proofs.blocks.empty_blocks.Given as goal

abbrev pub invariant-loop : goal.invariant-loop
invariant-loop l = record {
  empty : All (λ b. b ≡ []) l.spare.items;
  count : length l.spare.items ≡ l.counter;
  room : l.blocks ≤ vec_capacity l.spare;
}
