use Rattle.std.proofs.Common.{◌≡◌, ◌+◌, ◌-◌, length, vec_capacity}
use Rattle.desk.specs.Opening.{IsSplit, AreWorkers}
use Rattle.desk.proofs.opening.split_workers.Given as goal

abbrev pub invariant-loop-worker : goal.invariant-loop-worker
invariant-loop-worker g l =
    IsSplit l.lock (l.lock.frame.submitters + l.worker - 1) l.zero × AreWorkers l.lock 0 l.tokens.items × (length l.tokens.items ≡ l.worker) × (vec_capacity l.tokens ≡ vec_capacity l.fn.tokens)
