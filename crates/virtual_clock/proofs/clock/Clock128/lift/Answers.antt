use Rattle.std.proofs.Common.{arith}
use Rattle.std.proofs.lemmas.Int.{ints, clamps}
use Rattle.virtual_clock.proofs.clock.Clock128.lift.Goals as goal

pub invariant_of-self : goal.invariant_of-self
invariant_of-self c = record {
  workers_positive = c.self.invariant.workers_positive;
  workers_in_range = c.self.invariant.workers_in_range;
  moment_in_range = c.self.invariant.moment_in_range;
  weights_in_range = c.self.invariant.weights_in_range;
  time_low = omega (arith, ints, clamps, c.max-self-inside.ensures.value, c.self.invariant.time_low);
  time_high = omega (arith, ints, clamps, c.max-self-inside.ensures.value, c.max-self-inside-2.ensures.value, c.self.invariant.time_high, c.requires.ordered);
  cap_high = omega (arith, ints, clamps, c.max-self-inside-2.ensures.value, c.self.invariant.cap_high, c.requires.in_range);
}
