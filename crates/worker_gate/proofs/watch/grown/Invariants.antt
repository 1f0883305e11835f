use Rattle.std.proofs.Common.{◌≡◌}
use Rattle.worker_gate.proofs.watch.grown.Given as goal

abbrev pub invariant-loop : goal.invariant-loop
invariant-loop l = l.reader ≡ l.initial.reader
