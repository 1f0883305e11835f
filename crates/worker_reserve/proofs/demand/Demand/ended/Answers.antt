use Rattle.std.proofs.Common.{List, sym, subst}
use Rattle.worker_reserve.specs.declared.demand.Ended.{Ended}
use Rattle.worker_reserve.specs.Demand.{IsPast}
use Rattle.worker_reserve.proofs.demand.Demand.ended.Goals as goal

pub invariant_of-self : goal.invariant_of-self
invariant_of-self c =
    let past = c.self.inside.past.items in
    let order = subst (λ (p : List Ended). IsPast p c.args.end.moment) (sym c.self.view_is) c.requires.in_order in
    rw c.and-self-inside-2.ensures (c.and-self-inside.ensures past (c.moved_to-sums.ensures.keeps past c.self.invariant) order)
