use Rattle.std.proofs.Common.{arith, sym}
use Rattle.worker_reserve.proofs.Windows.{weighed_more, weighed_none}
use Rattle.worker_reserve.proofs.demand.Sums.weighed.Goals as goal

pub loop-k-init : goal.loop-k-init
loop-k-init c = record { is = sym (weighed_none c.args.self.now c.args.part); few = omega arith }

pub loop-k-preserved : goal.loop-k-preserved
loop-k-preserved c = record {
  is = omega (arith, c.loop-k.invariant.is, c.share-total.ensures.value, weighed_more c.args.self.now c.args.part c.loop-k.k);
  few = omega (arith, c.loop-k.invariant.few, c.share-total.ensures.few);
}
