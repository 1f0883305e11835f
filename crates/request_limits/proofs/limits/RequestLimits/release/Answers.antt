use Rattle.std.proofs.Common.{◌≡◌, ap, sym, subst, ◌∙◌}
use Rattle.request_limits.specs.Limits.{LimitsView, HasCell, cell_of, without_oldest}
use Rattle.request_limits.specs.Kept.{view_of}
use Rattle.request_limits.proofs.Views.{popped, keeps_popped}
use Rattle.request_limits.proofs.limits.RequestLimits.release.Goals as goal

pub invariant_of-self-2 : goal.invariant_of-self-2
invariant_of-self-2 c =
    let t = c.self.inside in
    let v : LimitsView = view_of t.kind_limits.items t.limits.items t.sent.items t.held in
    let known = subst (λ (u : LimitsView). HasCell u c.args.slot c.args.kind) (sym c.self.view_is) c.requires in
    let cell : c.cell-cell.result ≡ cell_of v c.args.slot c.args.kind = c.cell-cell.ensures.value ∙ ap (λ (u : LimitsView). cell_of u c.args.slot c.args.kind) (sym c.self.view_is) in
    keeps_popped t.kind_limits.items t.limits.items t.sent.items t.held c.args.slot c.args.kind c.cell-cell.result c.pop.new.self cell t.totals.items c.self.invariant known c.in_ok-item.ensures.rest

pub returns-clause-rest : goal.returns-clause-rest
returns-clause-rest c =
    let t = c.self.inside in
    let v : LimitsView = view_of t.kind_limits.items t.limits.items t.sent.items t.held in
    let cell : c.cell-cell.result ≡ cell_of v c.args.slot c.args.kind = c.cell-cell.ensures.value ∙ ap (λ (u : LimitsView). cell_of u c.args.slot c.args.kind) (sym c.self.view_is) in
    popped t.kind_limits.items t.limits.items t.sent.items t.held c.args.slot c.args.kind c.cell-cell.result c.pop.new.self cell c.in_ok-item.ensures.rest
    ∙ ap (λ (u : LimitsView). without_oldest u c.args.slot c.args.kind) c.self.view_is
