use Rattle.worker_gate.proofs.ServingSlices.{IsAlong}
use Rattle.worker_gate.proofs.work.run_slices.Given as goal

abbrev pub invariant-loop-k : goal.invariant-loop-k
invariant-loop-k g l = IsAlong l.fn.desk.lock (g.K.Clock.tells l.fn.clock) (g.G.Gate.course l.fn.gate) (g.F.Cost.cost_of l.fn.rule) (g.J.Job.label_of l.fn.job) l.fn.running l.fn.log l.running l.k l.last l.log
