use Rattle.worker_gate.specs.Serving.{Serves}
use Rattle.worker_gate.proofs.work.work.Given as goal

abbrev pub invariant-loop : goal.invariant-loop
invariant-loop g l =
    (goal.iterator-loop g).can_next l.iterator' × (goal.iterator-loop g).is_finite l.iterator'
    × Serves l.fn.desk.lock (g.K.Clock.tells l.fn.clock) (g.G.Gate.course l.fn.gate) (g.F.Cost.cost_of l.fn.rule) l.fn.worker l.free l.fn.log l.log
