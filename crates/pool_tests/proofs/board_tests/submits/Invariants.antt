use Rattle.std.proofs.Common.{◌≡◌}
use Rattle.history_lock.specs.Passes.{IsOf}
use Rattle.pool_tests.proofs.board_tests.submits.Given as goal

abbrev pub invariant-loop-job : goal.invariant-loop-job
invariant-loop-job g l = IsOf l.fn.desk.lock l.who.pass × (l.who.pass.number ≡ l.fn.who.pass.number)
