use Rattle.std.proofs.Common.{◌≡◌}
use Rattle.history_lock.specs.Passes.{IsOf}
use Rattle.pool_tests.proofs.bell_tests.rounds.Given as goal

abbrev pub invariant-loop-count : goal.invariant-loop-count
invariant-loop-count g l = IsOf l.fn.desk.lock l.who.pass × (l.who.pass.number ≡ l.fn.who.pass.number)
