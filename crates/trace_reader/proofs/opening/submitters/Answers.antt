use Rattle.std.proofs.Common.{arith, add-one}
use Rattle.trace_reader.proofs.Sums.{submitters_take}
use Rattle.trace_reader.proofs.opening.submitters.Goals as goal

pub loop-row-preserved : goal.loop-row-preserved
loop-row-preserved c = record {
  most = rw add-one (omega (arith, submitters_take c.args.rows.now c.loop-row.row-index c.loop-row-test.true, c.loop-row.invariant.most, c.max-most.ensures));
  low = omega (arith, c.max-most.ensures, c.loop-row.invariant.low, c.requires c.loop-row.row-index c.loop-row-test.true);
}
