use Rattle.std.proofs.Common.{◌<◌, subst, ap, arith, ℤ}
use mir.Syntax.{w128}
use Rattle.std.proofs.lemmas.Int.{to_z-of_z}
use Rattle.fq_model.specs.Keys.{Turn}
use Rattle.tag_rules.specs.Tables.{ChooserView}
use Rattle.tag_rules.specs.Foreseen.{IsForeseenOver}
use Rattle.shared_order.specs.Outlook.{IsOutlook}
use Rattle.shared_order.proofs.Choosing.{foreseen, all_weighed}
use Rattle.shared_order.proofs.chooser.SharedChooserForesees.foresee.Goals as goal

pub outlook-requires-clause-weighed : goal.outlook-requires-clause-weighed
outlook-requires-clause-weighed c =
    all_weighed c.self.inside.table.items c.self.inside.order.heads c.args.weights.now c.self.invariant.mirrors (omega (arith, c.requires.tenants, ap (λ (x : ChooserView). x.setting.tenants) c.self.view_is))

pub returns : goal.returns
returns c =
    let i = c.self.inside in
    let weights = c.args.weights.now in
    let below = c.args.below in
    let at : ℤ → Turn = λ v. record { policy = i.policy; workers = i.workers; worker = c.args.worker; virtual_time = v } in
    let seen : IsOutlook (at c.args.v) i.order.heads weights below c.outlook.result = subst (λ (v : ℤ). IsOutlook (at v) i.order.heads weights below c.outlook.result) (to_z-of_z w128 c.args.v c.ranges.v) c.outlook.ensures.outlook in
    let able : c.args.worker < i.workers = omega (arith, c.requires.worker, ap (λ (x : ChooserView). x.setting.workers) c.self.view_is) in
    let found : IsForeseenOver (at c.args.v) i.table.items weights below c.outlook.result = foreseen (at c.args.v) i.table.items i.order.heads weights below c.outlook.result able c.self.invariant.mirrors c.outlook.ensures.sorted seen in
    rw (← c.self.view_is) found
