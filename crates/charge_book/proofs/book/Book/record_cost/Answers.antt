use Rattle.std.proofs.Common.{sym, subst}
use Rattle.charge_book.specs.Book.{MayUse}
use Rattle.charge_book.proofs.Sound.{sound_finished}
use Rattle.charge_book.proofs.book.Book.record_cost.Goals as goal

pub invariant_of-self : goal.invariant_of-self
invariant_of-self c =
    let may = subst (λ b. MayUse b c.args.worker c.args.row c.args.cost) (sym c.self.view_is) c.requires in
    rw c.recharge.ensures.nets (sound_finished c.self.inside.rows.items c.self.inside.nets.items c.self.inside.begins c.args.worker c.args.row c.args.cost c.self.invariant may)
