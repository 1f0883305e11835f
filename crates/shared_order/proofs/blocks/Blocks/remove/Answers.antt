use Rattle.std.proofs.Common.{◌<◌, length, ap}
use Rattle.shared_order.proofs.InRow.{leaves_at}
use Rattle.shared_order.proofs.blocks.Blocks.remove.Goals as goal

pub returns-clause-used : goal.returns-clause-used
returns-clause-used c =
    let used = ap (λ v. v.used) c.self.view_is in let known : c.args.at < length c.self.inside.used.items = rw used c.requires.known in
    leaves_at c.args.self.now.used c.self.inside.used.items c.args.at c.args.head c.index_mut-block.result.now c.remove.new.self used known c.index_mut-block.ensures.value c.remove.ensures.gains
