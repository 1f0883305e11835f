use Rattle.std.proofs.Common.{◌≡◌, ◌<◌, ap, arith, sym, subst, ◌∙◌}
use Rattle.request_limits.specs.Limits.{LimitsView, HasCell, cell_of, sent_of}
use Rattle.request_limits.specs.Kept.{view_of}
use Rattle.request_limits.proofs.Sends.{sent_le, sent_read, keeps_more}
use Rattle.request_limits.proofs.limits.RequestLimits.forwarded.Goals as goal

pub overflow_add-index_mut : goal.overflow_add-index_mut
overflow_add-index_mut c =
    let t = c.self.inside in
    let v : LimitsView = view_of t.kind_limits.items t.limits.items t.sent.items t.held in
    let known = subst (λ (u : LimitsView). HasCell u c.args.slot c.args.kind) (sym c.self.view_is) c.requires.known in
    let cell : c.cell-cell.result ≡ cell_of v c.args.slot c.args.kind = c.cell-cell.ensures.value ∙ ap (λ (u : LimitsView). cell_of u c.args.slot c.args.kind) (sym c.self.view_is) in
    let few : sent_of v c.args.slot < 4294967295 = subst (λ (u : LimitsView). sent_of u c.args.slot < 4294967295) (sym c.self.view_is) c.requires.few in
    omega (arith, few, sent_le v c.args.slot c.args.kind c.self.invariant.cells known, sent_read v c.args.slot c.args.kind c.cell-cell.result c.index_mut.result.now c.self.invariant.cells known cell c.index_mut.ensures.value)

pub invariant_of-self : goal.invariant_of-self
invariant_of-self c =
    let t = c.self.inside in
    let v : LimitsView = view_of t.kind_limits.items t.limits.items t.sent.items t.held in
    let known = subst (λ (u : LimitsView). HasCell u c.args.slot c.args.kind) (sym c.self.view_is) c.requires.known in
    let cell : c.cell-cell.result ≡ cell_of v c.args.slot c.args.kind = c.cell-cell.ensures.value ∙ ap (λ (u : LimitsView). cell_of u c.args.slot c.args.kind) (sym c.self.view_is) in
    keeps_more v t.totals.items c.args.slot c.args.kind c.cell-cell.result c.index_mut.result.now c.index_mut-2.result.now c.self.invariant known cell c.index_mut.ensures.value c.index_mut-2.ensures.value
