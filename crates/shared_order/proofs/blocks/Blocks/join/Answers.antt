use Rattle.std.proofs.Common.{rules, arith, ◌≡◌, [], ap, length}
use Rattle.std.proofs.lemmas.List.Elements.{All-same, All-push}
use Rattle.shared_order.proofs.InRow.{joined_is}
use Rattle.shared_order.proofs.blocks.Blocks.join.Goals as goal

pub returns-clause-used : goal.returns-clause-used
returns-clause-used c =
    let n = ap (λ v. length v.used) c.self.view_is in
    rw (← c.self.view_is) (joined_is c.self.inside.used.items c.remove-next.new.self.items c.args.at c.absorb.new.self c.index_mut-block.result.now c.remove-next.result (omega (arith, c.requires.known)) c.remove-next.ensures.items c.index_mut-block.ensures.value c.remove-next.ensures.value c.absorb.ensures.all)

pub invariant_of-self : goal.invariant_of-self
invariant_of-self c = record {
  empty = All-same (λ b. b ≡ []) _ _ c.push_reserved.ensures.items (All-push (λ b. b ≡ []) _ _ c.self.invariant.empty c.absorb.ensures.rest);
  used_room = search rules;
  spare_room = search rules;
}
