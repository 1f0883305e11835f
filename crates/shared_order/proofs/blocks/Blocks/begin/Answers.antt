use Rattle.std.proofs.Common.{rules, arith, ◌≢◌, ◌<◌, length, sym, subst}
use Rattle.std.specs.List.{All}
use Rattle.shared_order.specs.Heads.{HeadView}
use Rattle.shared_order.proofs.InRow.{last_taken}
use Rattle.shared_order.proofs.blocks.Blocks.begin.Goals as goal

pub insert-requires-clause-room : goal.insert-requires-clause-room
insert-requires-clause-room c = let taken = last_taken _ _ _ c.take_last-block.ensures.items c.self.invariant.empty in subst (λ b. length b < 32) (sym taken.1) (omega arith)

pub insert-requires-clause-new_request : goal.insert-requires-clause-new_request
insert-requires-clause-new_request c =
    let taken = last_taken _ _ _ c.take_last-block.ensures.items c.self.invariant.empty in
    subst (All (λ (h : HeadView). h.request ≢ c.args.head.request)) (sym taken.1) (λ i d inside. absurd (omega (arith, inside)))

pub invariant_of-self : goal.invariant_of-self
invariant_of-self c = record {
  empty = (last_taken _ _ _ c.take_last-block.ensures.items c.self.invariant.empty).0;
  used_room = search rules;
  spare_room = search rules;
}
