use Rattle.std.proofs.Common.{ℕ, sym, subst}
use Rattle.waiting_lists.specs.Lists.{ListsView}
use Rattle.request_limits.specs.declared.held.Held.{Held}
use Rattle.request_limits.specs.Limits.{LimitsView, IsFree, IsRemoved}
use Rattle.request_limits.specs.Kept.{view_of, held_of}
use Rattle.request_limits.proofs.Places.{removed_keeps, removed_free}
use Rattle.request_limits.proofs.Removed.{none_free, view_removed}
use Rattle.request_limits.proofs.limits.RequestLimits.remove.Goals as goal

pub returns-in_err-item-clause-none : goal.returns-in_err-item-clause-none
returns-in_err-item-clause-none c =
    let t = c.self.inside in
    let free : IsFree c.args.self.now c.args.place = subst (λ (u : LimitsView). IsFree u c.args.place) c.self.view_is (none_free t.kind_limits.items t.limits.items t.sent.items t.held c.args.place c.self.invariant.cells c.in_err-item.ensures.none) in
    rw c.from_residual.ensures free

pub returns-in_err-item-clause-gone : goal.returns-in_err-item-clause-gone
returns-in_err-item-clause-gone c =
    let t = c.self.inside in
    subst (λ (w : ListsView ℕ). IsFree (view_of t.kind_limits.items t.limits.items t.sent.items w) c.args.place) (sym c.in_err-item.ensures.unchanged)
    (none_free t.kind_limits.items t.limits.items t.sent.items t.held c.args.place c.self.invariant.cells c.in_err-item.ensures.none)

pub invariant_of-self-2 : goal.invariant_of-self-2
invariant_of-self-2 c =
    let t = c.self.inside in
    let v : LimitsView = view_of t.kind_limits.items t.limits.items t.sent.items t.held in
    let w : LimitsView = view_of t.kind_limits.items t.limits.items t.sent.items c.remove.new.self in
    let removed : IsRemoved v c.args.place (held_of c.in_ok-item.item) w = view_removed t.kind_limits.items t.limits.items t.sent.items t.held c.remove.new.self c.args.place c.in_ok-item.field-0-0 c.in_ok-item.item c.self.invariant.cells c.in_ok-item.ensures.removed in
    removed_keeps v w c.args.place (held_of c.in_ok-item.item) removed t.totals.items c.self.invariant

pub returns-clause-removed : goal.returns-clause-removed
returns-clause-removed c =
    let t = c.self.inside in
    let v : LimitsView = view_of t.kind_limits.items t.limits.items t.sent.items t.held in
    let w : LimitsView = view_of t.kind_limits.items t.limits.items t.sent.items c.remove.new.self in
    let removed : IsRemoved v c.args.place (held_of c.in_ok-item.item) w = view_removed t.kind_limits.items t.limits.items t.sent.items t.held c.remove.new.self c.args.place c.in_ok-item.field-0-0 c.in_ok-item.item c.self.invariant.cells c.in_ok-item.ensures.removed in
    subst (λ (u : LimitsView). IsRemoved u c.args.place c.held_of.result w) c.self.view_is
    (subst (λ (h : Held). IsRemoved v c.args.place h w) (sym c.held_of.ensures) removed)

pub returns-clause-gone : goal.returns-clause-gone
returns-clause-gone c =
    let t = c.self.inside in
    let v : LimitsView = view_of t.kind_limits.items t.limits.items t.sent.items t.held in
    let w : LimitsView = view_of t.kind_limits.items t.limits.items t.sent.items c.remove.new.self in
    let removed : IsRemoved v c.args.place (held_of c.in_ok-item.item) w = view_removed t.kind_limits.items t.limits.items t.sent.items t.held c.remove.new.self c.args.place c.in_ok-item.field-0-0 c.in_ok-item.item c.self.invariant.cells c.in_ok-item.ensures.removed in
    removed_free v w c.args.place (held_of c.in_ok-item.item) removed t.totals.items c.self.invariant
