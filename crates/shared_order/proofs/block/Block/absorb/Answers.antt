use Rattle.std.proofs.Common.{rules, ◌≡◌, ◌++◌}
use Rattle.shared_order.proofs.InBlock.{absorbed}
use Rattle.shared_order.proofs.block.Block.absorb.Goals as goal

pub invariant_of-self : goal.invariant_of-self
invariant_of-self c =
    let items : c.extend_from_slice.new.self.items ≡ c.self.inside.heads.items ++ c.next.inside.heads.items = search rules in
    absorbed c.self.inside.heads.items c.next.inside.heads.items _ _ _ _ _ _ _ items c.self.invariant c.next.invariant (rw (c.self.view_is, c.next.view_is) (c.requires.in_order)) (search rules) (search rules) c.join-self-inside.ensures
