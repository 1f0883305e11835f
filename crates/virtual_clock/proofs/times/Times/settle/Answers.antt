use Rattle.std.proofs.Common.{arith}
use Rattle.virtual_clock.proofs.Settling.{reached_weight, settling_step, one_less}
use Rattle.virtual_clock.proofs.times.Times.settle.Goals as goal

pub leave-requires-clause-entered : goal.leave-requires-clause-entered
leave-requires-clause-entered c = omega (arith, reached_weight c.reached.self c.in-Some.tenant c.reached.invariant.is_counted c.in-Some.ensures.some, c.of.ensures.value)

pub reached-smaller : goal.reached-smaller
reached-smaller c = rw (c.set.ensures) (one_less c.reached.self c.in-Some.tenant c.in-Some.ensures.some)

pub reached-preserved : goal.reached-preserved
reached-preserved c = rw (c.leave.ensures, c.set.ensures, c.of.ensures.value) (settling_step _ c.reached.self c.in-Some.tenant c.reached.invariant c.in-Some.ensures.some)
