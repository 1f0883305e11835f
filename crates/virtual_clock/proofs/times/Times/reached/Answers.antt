use Rattle.std.proofs.Common.{arith, ◌<ℤ◌}
use Rattle.std.proofs.lemmas.Int.{ints}
use Rattle.virtual_clock.proofs.Settling.{none_come}
use Rattle.virtual_clock.proofs.times.Times.reached.Goals as goal

pub returns-else-key-now-clause-none : goal.returns-else-key-now-clause-none
returns-else-key-now-clause-none c =
    let above : c.args.self.now.clock.time <ℤ c.in_ok-tenant.key.a = omega (arith, ints, c.now.ensures.value, c.if-key-now.false) in
    none_come c.args.self.now c.in_ok-tenant.tenant c.in_ok-tenant.key c.in_ok-tenant.ensures above
