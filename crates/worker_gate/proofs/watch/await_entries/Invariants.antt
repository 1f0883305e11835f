use Rattle.std.proofs.Common.{◌-◌, ◌≡◌}
use Rattle.worker_gate.proofs.watch.await_entries.Given as goal

abbrev pub invariant-loop-shown : goal.invariant-loop-shown
invariant-loop-shown l = l.reader ≡ l.initial.reader

abbrev pub decreases-loop-shown : goal.decreases-loop-shown
decreases-loop-shown l = l.due - l.shown
