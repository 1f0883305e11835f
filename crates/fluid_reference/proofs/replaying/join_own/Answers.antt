use Rattle.std.proofs.Common.{◌+◌, ◌≤◌, ◌≡◌, take, sum_by, arith, ap, sym, ◌∙◌}
use Rattle.std.proofs.lemmas.List.{length-take}
use Rattle.std.proofs.lemmas.List.Elements.{All-take}
use Rattle.std.proofs.lemmas.List.Sums.{sum_by-le, sum_by_more}
use Rattle.fq_model.specs.declared.fluid.FluidRow.{FluidRow}
use Rattle.fluid_reference.specs.Slots.{row_of}
use Rattle.fluid_reference.proofs.Steps.{before_more}
use Rattle.fluid_reference.proofs.replaying.join_own.Goals as goal
use Rattle.fluid_reference.proofs.replaying.join_own.Goals.{Then-own-joined}

with_next : (c : Then-own-joined) → c.join.cost + (row_of c.args.own.now c.join.joined).cost ≡ sum_by (λ (r : FluidRow). r.cost) (take (c.join.joined + 1) c.args.own.now)
with_next c = ap (λ n. n + (row_of c.args.own.now c.join.joined).cost) c.join.invariant.theirs ∙ sym (sum_by_more (λ (r : FluidRow). r.cost) c.args.own.now c.join.joined _ c.join-test.true)

pub overflow_add-cost : goal.overflow_add-cost
overflow_add-cost c = omega (
  arith,
  with_next (goal.at.overflow_add-cost c).Then-own-joined,
  sum_by-le (λ (r : FluidRow). r.cost) 1000000000 (take (c.join.joined + 1) c.args.own.now) (All-take (λ (r : FluidRow). r.cost ≤ 1000000000) (c.join.joined + 1) c.args.own.now c.requires.small),
  length-take (c.join.joined + 1) c.args.own.now,
  c.requires.few,
)

pub join-preserved : goal.join-preserved
join-preserved c = record {
  in_list = omega (arith, c.join-test.true);
  theirs = with_next (goal.at.join-preserved c).Then-own-joined;
  before = before_more (λ (r : FluidRow). r.submit ≤ c.args.at) c.args.own.now c.join.joined _ c.join-test.true c.join.invariant.before c.if-own-joined.true;
}
