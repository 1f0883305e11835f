use Rattle.std.proofs.Common.{◌≡◌}
use Rattle.history_lock.specs.Passes.{IsOf}
use Rattle.pool_tests.proofs.lock_tests.turns.Given as goal

abbrev pub invariant-loop-call : goal.invariant-loop-call
invariant-loop-call g l = IsOf l.fn.lock l.pass × (l.pass.number ≡ l.fn.pass.number)
