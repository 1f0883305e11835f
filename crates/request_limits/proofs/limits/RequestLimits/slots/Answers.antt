use Rattle.std.proofs.Common.{arith}
use Rattle.request_limits.proofs.limits.RequestLimits.slots.Goals as goal

pub overflow_cast-result : goal.overflow_cast-result
overflow_cast-result c =
    let t = c.self.inside in
    omega (arith, c.self.invariant.cells.slots_fit, c.len.ensures, t.limits.ok.0)
