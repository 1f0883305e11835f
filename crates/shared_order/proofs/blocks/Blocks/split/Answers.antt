use Rattle.std.proofs.Common.{rules}
use Rattle.shared_order.proofs.InRow.{last_taken}
use Rattle.shared_order.proofs.blocks.Blocks.split.Goals as goal

pub split-requires-clause-empty : goal.split-requires-clause-empty
split-requires-clause-empty c = (last_taken _ _ _ c.take_last-next.ensures.items c.self.invariant.empty).1

pub invariant_of-self : goal.invariant_of-self
invariant_of-self c = record {
  empty = (last_taken _ _ _ c.take_last-next.ensures.items c.self.invariant.empty).0;
  used_room = search rules;
  spare_room = search rules;
}
