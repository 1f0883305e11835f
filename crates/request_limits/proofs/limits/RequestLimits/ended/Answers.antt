use Rattle.std.proofs.Common.{◌≡◌, ◌<◌, ◌≤◌, ap, arith, sym, subst, ◌∙◌}
use Rattle.request_limits.specs.Limits.{LimitsView, HasCell, cell_of, sent_in}
use Rattle.request_limits.specs.Kept.{view_of}
use Rattle.request_limits.proofs.Sends.{sent_read, total_above, keeps_fewer}
use Rattle.request_limits.proofs.limits.RequestLimits.ended.Goals as goal

pub overflow_sub-index_mut-2 : goal.overflow_sub-index_mut-2
overflow_sub-index_mut-2 c =
    let t = c.self.inside in
    let v : LimitsView = view_of t.kind_limits.items t.limits.items t.sent.items t.held in
    let known = subst (λ (u : LimitsView). HasCell u c.args.slot c.args.kind) (sym c.self.view_is) c.requires.known in
    let some = subst (λ (u : LimitsView). 0 < sent_in u c.args.slot c.args.kind) (sym c.self.view_is) c.requires.some in
    let cell : c.cell-cell.result ≡ cell_of v c.args.slot c.args.kind = c.cell-cell.ensures.value ∙ ap (λ (u : LimitsView). cell_of u c.args.slot c.args.kind) (sym c.self.view_is) in
    let read : c.index_mut.result.now ≡ sent_in v c.args.slot c.args.kind = sent_read v c.args.slot c.args.kind c.cell-cell.result c.index_mut.result.now c.self.invariant.cells known cell c.index_mut.ensures.value in
    let above : c.index_mut.result.now ≤ c.index_mut-2.result.now = total_above v t.totals.items c.args.slot c.args.kind c.cell-cell.result c.index_mut.result.now c.index_mut-2.result.now c.self.invariant known cell c.index_mut.ensures.value c.index_mut-2.ensures.value in
    omega (arith, some, read, above)

pub invariant_of-self : goal.invariant_of-self
invariant_of-self c =
    let t = c.self.inside in
    let v : LimitsView = view_of t.kind_limits.items t.limits.items t.sent.items t.held in
    let known = subst (λ (u : LimitsView). HasCell u c.args.slot c.args.kind) (sym c.self.view_is) c.requires.known in
    let some = subst (λ (u : LimitsView). 0 < sent_in u c.args.slot c.args.kind) (sym c.self.view_is) c.requires.some in
    let cell : c.cell-cell.result ≡ cell_of v c.args.slot c.args.kind = c.cell-cell.ensures.value ∙ ap (λ (u : LimitsView). cell_of u c.args.slot c.args.kind) (sym c.self.view_is) in
    let read : c.index_mut.result.now ≡ sent_in v c.args.slot c.args.kind = sent_read v c.args.slot c.args.kind c.cell-cell.result c.index_mut.result.now c.self.invariant.cells known cell c.index_mut.ensures.value in
    keeps_fewer v t.totals.items c.args.slot c.args.kind c.cell-cell.result c.index_mut.result.now c.index_mut-2.result.now c.self.invariant known cell c.index_mut.ensures.value c.index_mut-2.ensures.value (omega (arith, some, read))
