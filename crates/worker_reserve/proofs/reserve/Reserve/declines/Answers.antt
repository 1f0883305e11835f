use Rattle.std.proofs.Common.{◌/◌, ap, ◌∙◌}
use Rattle.worker_reserve.specs.Classes.{class_of}
use Rattle.worker_reserve.specs.Demand.{demand, lowered}
use Rattle.worker_reserve.specs.Reserve.{ReserveView}
use Rattle.worker_reserve.proofs.Lowered.{decided}
use Rattle.worker_reserve.proofs.reserve.Reserve.declines.Goals as goal

pub returns : goal.returns
returns c =
    let class = class_of (c.args.estimate / 8) in
    decided c.args.budget.now c.args.question.now c.declines.result c.below-smaller.result c.below-visitors.result _ _ c.requires.budget.workers
    (c.below-smaller.ensures ∙ ap (λ k. lowered (demand c.self.inside.all c.args.moment k)) c.class_of-class.ensures.class ∙ ap (λ (v : ReserveView). lowered (demand v.ends c.args.moment class)) c.self.view_is)
    (c.below-visitors.ensures ∙ ap (λ k. lowered (demand c.self.inside.visitors c.args.moment k)) c.class_of-class.ensures.class ∙ ap (λ (v : ReserveView). lowered (demand v.visits c.args.moment class)) c.self.view_is)
    c.declines.ensures
