use Rattle.std.proofs.Common.{sym, subst}
use Rattle.charge_book.specs.Book.{MayUse}
use Rattle.charge_book.proofs.Sound.{sound_used}
use Rattle.charge_book.proofs.book.Book.record_use.Goals as goal

pub invariant_of-self : goal.invariant_of-self
invariant_of-self c =
    let may = subst (λ b. MayUse b c.args.worker c.args.row c.args.used) (sym c.self.view_is) c.requires in
    rw (c.recharge.ensures.nets, c.charge.ensures) (sound_used c.self.inside.rows.items c.self.inside.nets.items c.self.inside.begins c.args.worker c.args.row c.args.used c.self.invariant may)
