use Rattle.history_lock.specs.Passes.{IsOf}
use Rattle.pool_tests.proofs.desk_tests.taken.Given as goal

abbrev pub invariant-loop : goal.invariant-loop
invariant-loop g l = (goal.iterator-loop g).can_next l.iterator' × (goal.iterator-loop g).is_finite l.iterator' × IsOf l.desk.lock l.worker.pass
