use Rattle.worker_reserve.proofs.Windows.{opened}
use Rattle.worker_reserve.proofs.demand.Demand.new.Goals as goal

pub invariant_of-result : goal.invariant_of-result
invariant_of-result c = rw c.new.ensures (opened _ _ c.zeros.ensures c.zeros-2.ensures)
