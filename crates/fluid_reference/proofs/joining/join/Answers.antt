use Rattle.std.proofs.Common.{arith, ◌≤◌, ◌+◌, take, length, subst, sym, ◌∙◌, length-set, ap}
use Rattle.fq_model.specs.declared.fluid.FluidRow.{FluidRow}
use Rattle.fluid_reference.specs.Slots.{IsRowOf, CostsAre, row_of}
use Rattle.fluid_reference.proofs.Steps.{join_one, before_more, next_low}
use Rattle.fluid_reference.proofs.joining.join.Goals as goal
use Rattle.fluid_reference.proofs.joining.join.Goals.{Then-sorted-joined}

-- the next request's numbers are in their limits
in_range : (c : Then-sorted-joined) → IsRowOf (length c.join.costs) (row_of c.args.sorted.now c.join.joined)
in_range c = subst (λ n. IsRowOf n (row_of c.args.sorted.now c.join.joined)) (sym c.join.invariant.len) (c.requires.in_range c.join.joined _ c.join-test.true)

pub add-requires-clause-in_range : goal.add-requires-clause-in_range
add-requires-clause-in_range c = in_range (goal.at.add-requires-clause-in_range c).Then-sorted-joined

pub add-requires-clause-small : goal.add-requires-clause-small
add-requires-clause-small c = omega (
  arith,
  c.join.invariant.joined.theirs (row_of c.args.sorted.now c.join.joined).tenant (in_range (goal.at.add-requires-clause-small c).Then-sorted-joined).tenant,
  next_low (length c.args.costs.now) c.args.sorted.now c.join.joined c.requires.in_range c.requires.few c.join-test.true,
)

pub join-preserved : goal.join-preserved
join-preserved c = record {
  len = ap length c.in_ok-add.ensures.costs ∙ length-set c.join.costs _ _ ∙ c.join.invariant.len;
  joined = record {
    in_list = omega arith;
    theirs = subst (CostsAre (take (c.join.joined + 1) c.args.sorted.now)) (sym c.in_ok-add.ensures.costs) (join_one c.args.sorted.now c.join.joined c.join.costs c.join-test.true c.join.invariant.joined.theirs (in_range (goal.at.join-preserved c).Then-sorted-joined).tenant);
    before = before_more (λ (r : FluidRow). r.submit ≤ c.args.at) c.args.sorted.now c.join.joined _ c.join-test.true c.join.invariant.joined.before c.if-sorted-joined.true;
  };
  backlogged = λ first. c.in_ok-add.ensures.backlogged (c.join.invariant.backlogged first);
}
