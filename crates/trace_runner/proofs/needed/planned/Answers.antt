use Rattle.std.proofs.Common.{arith, add-one}
use Rattle.program_model.specs.Courses.{reports_below}
use Rattle.trace_reader.proofs.Sums.{sum_over_take}
use Rattle.trace_runner.proofs.needed.planned.Goals as goal

pub loop-row-preserved : goal.loop-row-preserved
loop-row-preserved c = record {
  sum = rw add-one (omega (arith, sum_over_take (λ row. reports_below c.args.refresh row.cost) c.args.rows.now c.loop-row.row-index c.loop-row-test.true, c.loop-row.invariant.sum, c.reports_below-sum.ensures.number));
  bound = omega (arith, c.loop-row.invariant.bound, c.reports_below-sum.ensures.bound);
}
