use Rattle.std.proofs.Common.{◌≡◌, ◌<◌, ap, arith, sym, subst, ◌∙◌}
use Rattle.waiting_lists.specs.Lists.{waiting}
use Rattle.request_limits.specs.Limits.{LimitsView, HasCell, cell_of, all_held, IsFree, with_youngest}
use Rattle.request_limits.specs.Kept.{view_of}
use Rattle.request_limits.proofs.Views.{count_is, pushed, keeps_pushed}
use Rattle.request_limits.proofs.limits.RequestLimits.hold.Goals as goal

pub unreachable-requires : goal.unreachable-requires
unreachable-requires c =
    let t = c.self.inside in
    let v : LimitsView = view_of t.kind_limits.items t.limits.items t.sent.items t.held in
    let space : all_held v < t.held.slots = subst (λ (u : LimitsView). all_held u < u.room) (sym c.self.view_is) c.requires.space in
    let full : waiting t.held ≡ t.held.slots = c.in_default.ensures.full in
    omega (arith, space, full, count_is t.kind_limits.items t.limits.items t.sent.items t.held)

pub invariant_of-self : goal.invariant_of-self
invariant_of-self c =
    let t = c.self.inside in
    let v : LimitsView = view_of t.kind_limits.items t.limits.items t.sent.items t.held in
    let known = subst (λ (u : LimitsView). HasCell u c.args.slot c.args.kind) (sym c.self.view_is) c.requires.known in
    let free = subst (λ (u : LimitsView). IsFree u c.args.held.place) (sym c.self.view_is) c.requires.free in
    let cell : c.cell-cell.result ≡ cell_of v c.args.slot c.args.kind = c.cell-cell.ensures.value ∙ ap (λ (u : LimitsView). cell_of u c.args.slot c.args.kind) (sym c.self.view_is) in
    keeps_pushed t.kind_limits.items t.limits.items t.sent.items t.held c.args.slot c.args.kind c.cell-cell.result c.push.new.self cell t.totals.items c.self.invariant known _ c.in-Ok.ensures.pushed free

pub returns : goal.returns
returns c =
    let t = c.self.inside in
    let v : LimitsView = view_of t.kind_limits.items t.limits.items t.sent.items t.held in
    let cell : c.cell-cell.result ≡ cell_of v c.args.slot c.args.kind = c.cell-cell.ensures.value ∙ ap (λ (u : LimitsView). cell_of u c.args.slot c.args.kind) (sym c.self.view_is) in
    pushed t.kind_limits.items t.limits.items t.sent.items t.held c.args.slot c.args.kind c.cell-cell.result c.push.new.self cell _ c.in-Ok.ensures.pushed
    ∙ ap (λ (u : LimitsView). with_youngest u c.args.slot c.args.kind c.args.held) c.self.view_is
