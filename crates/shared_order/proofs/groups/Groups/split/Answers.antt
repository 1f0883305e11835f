use Rattle.std.proofs.Common.{◌<◌, length, ap}
use Rattle.shared_order.proofs.Numbers.{numbers_kept}
use Rattle.shared_order.proofs.groups.Groups.split.Goals as goal

pub renew-requires-clause-kept : goal.renew-requires-clause-kept
renew-requires-clause-kept c =
    let used = ap (λ v. v.used) c.self.view_is in let known : c.args.at < length c.self.inside.blocks.used = rw used c.requires.known in
    numbers_kept c.self.inside.blocks.used c.used.result.now _ _ c.args.at c.self.inside.lengths.items c.used.ensures c.split.ensures.used known c.self.invariant.all.each
