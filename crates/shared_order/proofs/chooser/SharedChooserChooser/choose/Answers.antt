use Rattle.std.proofs.Common.{◌<◌, sym, subst, ap, arith, ℤ, ◌≤ℤ◌}
use mir.Syntax.{w128}
use Rattle.std.proofs.lemmas.Int.{to_z-of_z}
use Rattle.fq_model.specs.Keys.{Turn, IsChoice}
use Rattle.tag_rules.specs.Tables.{ChooserView, Has}
use Rattle.shared_order.specs.Heads.{HeadView}
use Rattle.shared_order.specs.Mirrors.{keys_of, IsChosen}
use Rattle.shared_order.proofs.Choosing.{chosen}
use Rattle.shared_order.proofs.Mirroring.{begun_at}
use Rattle.shared_order.proofs.chooser.SharedChooserChooser.choose.Goals as goal

pub returns-clause-chosen : goal.returns-clause-chosen
returns-clause-chosen c =
    let i = c.self.inside in
    let h = c.in_ok-head.head in
    let at : ℤ → Turn = λ v. record { policy = i.policy; workers = i.workers; worker = c.args.worker; virtual_time = v } in
    let found : IsChosen (at c.args.v) i.order.heads h = subst (λ (v : ℤ). IsChosen (at v) i.order.heads h) (to_z-of_z w128 c.args.v c.ranges.v) c.in_ok-head.ensures.chosen in
    let able : c.args.worker < i.workers = omega (arith, c.requires.worker, ap (λ (x : ChooserView). x.setting.workers) c.self.view_is) in
    let choice : IsChoice (at c.args.v) (Has i.table.items) h.tenant (keys_of h) = chosen (at c.args.v) i.table.items i.order.heads h able c.self.invariant.mirrors c.in_ok-head.ensures.sorted found in
    rw (← c.self.view_is) (keys_of h, subst (λ (x : HeadView). IsChoice (at c.args.v) (Has i.table.items) x.tenant (keys_of h)) (sym c.head.view_is) choice)

pub invariant_of-self : goal.invariant_of-self
invariant_of-self c = begun_at c.self.inside.table.items c.self.inside.order c.self.inside.latest _ c.args.v c.self.invariant (subst (λ (x : ChooserView). x.latest ≤ℤ c.args.v) (sym c.self.view_is) c.requires.not_back) (to_z-of_z w128 c.args.v c.ranges.v)

pub invariant_of-self-2 : goal.invariant_of-self-2
invariant_of-self-2 c = begun_at c.self.inside.table.items c.self.inside.order c.self.inside.latest _ c.args.v c.self.invariant (subst (λ (x : ChooserView). x.latest ≤ℤ c.args.v) (sym c.self.view_is) c.requires.not_back) (to_z-of_z w128 c.args.v c.ranges.v)
