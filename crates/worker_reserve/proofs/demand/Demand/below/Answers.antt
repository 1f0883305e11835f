use Rattle.std.proofs.Common.{List, min, arith, refl, ap, ◌∙◌}
use Rattle.worker_reserve.specs.declared.demand.Ended.{Ended}
use Rattle.worker_reserve.specs.Demand.{demand, lowered}
use Rattle.worker_reserve.proofs.Windows.{is_demand}
use Rattle.worker_reserve.proofs.demand.Demand.below.Goals as goal

pub returns : goal.returns
returns c =
    let past = c.self.inside.past.items in
    c.min.ensures
    ∙ ap (λ n. min n 70368744177664) c.weighed.ensures
    ∙ is_demand past c.moved_to-sums.result c.args.moment _ (c.moved_to-sums.ensures.keeps past c.self.invariant) c.moved_to-sums.ensures.window refl (omega arith) c.args.class c.requires.class
    ∙ ap (λ (p : List Ended). lowered (demand p c.args.moment c.args.class)) c.self.view_is
