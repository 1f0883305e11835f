use Rattle.std.proofs.Common.{ℕ, ◌≡◌, ◌<◌, ◌≤◌, ◌++◌, ◌∷◌, [], List, length, All, arith, ap, ap₂, sym, ◌∙◌, subst, slice_index, sum_by}
use Rattle.fluid_reference.specs.Slots.{column_of, number_at, slot_at}
use Rattle.std.proofs.lemmas.List.Elements.{All-filter}
use Rattle.std.proofs.lemmas.List.Sums.{length-filter, count_by-le-length}
use Rattle.fq_laws.proofs.Lists.{list_none, list_more, list_length, list_at}
use Rattle.fq_model.specs.Sums.{list_below}
use Rattle.fq_model.specs.declared.lag.TenantLag.{TenantLag}
use Rattle.lag_report.specs.declared.course.Course.{Course}
use Rattle.lag_report.specs.Work.{EndsWithin, line_of, line_for}
use Rattle.lag_report.proofs.Groups.{is_own, own_low}
use Rattle.lag_report.proofs.Refusals.{few_slots}
use Rattle.lag_report.proofs.lines.lines.Goals as goal
use Rattle.lag_report.proofs.lines.lines.Goals.{After-as_slice}

served_is : (c : After-as_slice) → c.as_slice.result.now ≡ column_of c.args.fluid.now c.loop-t.t
served_is c = c.as_slice.ensures.value ∙ c.in_ok-served.ensures

as_many : (c : After-as_slice) → length c.as_slice.result.now ≡ length c.args.fluid.now
as_many c = ap length (served_is c) ∙ list_length (λ k. number_at (slot_at c.args.fluid.now k) c.loop-t.t) (length c.args.fluid.now)

pub loop-t-init : goal.loop-t-init
loop-t-init c = c.new-lines.ensures.items ∙ sym (list_none _)

pub line-requires-clause-some : goal.line-requires-clause-some
line-requires-clause-some c = omega (arith, as_many c, c.requires.table.some)

pub line-requires-clause-few : goal.line-requires-clause-few
line-requires-clause-few c =
    let some : 1 ≤ length c.args.weights.now = omega (arith, c.loop-t-test.true) in
    subst (λ n. n ≤ 4000000) (sym (as_many c)) (few_slots (length c.args.fluid.now) (length c.args.weights.now) some c.requires.table.few)

pub line-requires-clause-served : goal.line-requires-clause-served
line-requires-clause-served c = subst (All (λ s. s ≤ 2000000000000000)) (sym (served_is c)) (λ k d l.
    let long : length (column_of c.args.fluid.now c.loop-t.t) ≡ length c.args.fluid.now = list_length (λ k. number_at (slot_at c.args.fluid.now k) c.loop-t.t) (length c.args.fluid.now) in
    let here : k < length c.args.fluid.now = omega (arith, l, long) in
    let known : c.loop-t.t < length c.args.weights.now = c.loop-t-test.true in
    subst (λ n. n ≤ 2000000000000000) (sym (list_at (λ k. number_at (slot_at c.args.fluid.now k) c.loop-t.t) (length c.args.fluid.now) k d here)) (c.requires.table.low k c.loop-t.t here known))

pub line-requires-clause-requests : goal.line-requires-clause-requests
line-requires-clause-requests c = omega (arith, ap length c.of_tenant-own.ensures, length-filter (is_own c.loop-t.t) c.args.courses.now, count_by-le-length (is_own c.loop-t.t) c.args.courses.now, c.requires.requests)

pub line-requires-clause-costs : goal.line-requires-clause-costs
line-requires-clause-costs c = omega (arith, ap (sum_by (λ (x : Course). x.cost)) c.of_tenant-own.ensures, own_low c.loop-t.t (λ x. x.cost) c.args.courses.now, c.requires.costs)

pub line-requires-clause-end : goal.line-requires-clause-end
line-requires-clause-end c = subst (λ n. All (EndsWithin c.args.slot n) c.of_tenant-own.result.now) (sym (as_many c)) (subst (All (EndsWithin c.args.slot (length c.args.fluid.now))) (sym c.of_tenant-own.ensures) (All-filter (is_own c.loop-t.t) (EndsWithin c.args.slot (length c.args.fluid.now)) c.args.courses.now c.requires.end))

pub loop-t-preserved : goal.loop-t-preserved
loop-t-preserved c =
    let b : After-as_slice = (goal.at.loop-t-preserved c).After-as_slice in
    let line : c.in_ok-line.line ≡ line_for c.args.weights.now c.args.courses.now c.args.fluid.now c.args.slot c.loop-t.t =
    c.in_ok-line.ensures
    ∙ ap₂ (λ (s : List ℕ) (cs : List Course). line_of (slice_index c.args.weights.now c.loop-t.t) s cs c.args.slot) (served_is b) c.of_tenant-own.ensures in
    c.in_ok-push.ensures.items ∙ ap₂ (λ (xs : List TenantLag) l. xs ++ l ∷ []) c.loop-t.invariant line ∙ sym (list_more (line_for c.args.weights.now c.args.courses.now c.args.fluid.now c.args.slot) c.loop-t.t)

pub services-requires : goal.services-requires
services-requires c = λ k l. subst (λ n. c.loop-t.t < n) (sym (c.requires.table.tenants_are k l)) c.loop-t-test.true

pub of_tenant-own-requires : goal.of_tenant-own-requires
of_tenant-own-requires c = c.requires.order

pub returns : goal.returns
returns c = c.loop-t.invariant ∙ ap (list_below (line_for c.args.weights.now c.args.courses.now c.args.fluid.now c.args.slot)) (omega (arith, c.loop-t-test.false, c.loop-t.auto.t-end))
