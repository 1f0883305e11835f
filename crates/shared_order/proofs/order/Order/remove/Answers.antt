use Rattle.std.proofs.Common.{sym, ap, subst}
use Rattle.std.specs.List.{Contains}
use Rattle.shared_order.specs.Blocks.{IsBlockOf}
use Rattle.shared_order.proofs.Changes.{in_block, leaves_thin, leaves_gains}
use Rattle.shared_order.proofs.order.Order.remove.Goals as goal

pub remove-requires-clause-there : goal.remove-requires-clause-there
remove-requires-clause-there c =
    let place = subst (λ b. IsBlockOf c.args.head b c.block_of-at.result) c.used.ensures c.block_of-at.ensures in
    let there = subst (λ l. Contains l c.args.head) (sym (ap (λ v. v.heads) c.self.view_is)) c.requires in
    in_block c.args.head c.self.inside.blocks.used c.block_of-at.result place there

pub settle-requires : goal.settle-requires
settle-requires c =
    let place = subst (λ b. IsBlockOf c.args.head b c.block_of-at.result) c.used.ensures c.block_of-at.ensures in
    leaves_thin c.self.inside.blocks.used c.remove.new.self.used c.block_of-at.result c.args.head place.known c.self.invariant c.remove.ensures.used

pub returns-clause-gains : goal.returns-clause-gains
returns-clause-gains c =
    let place = subst (λ b. IsBlockOf c.args.head b c.block_of-at.result) c.used.ensures c.block_of-at.ensures in
    let g = leaves_gains c.self.inside.blocks.used c.remove.new.self.used c.block_of-at.result c.args.head place.known c.remove.ensures.used in
    rw (c.settle.ensures.heads, ← c.self.view_is) g
