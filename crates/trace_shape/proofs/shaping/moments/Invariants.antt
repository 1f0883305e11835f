use Rattle.trace_shape.proofs.Runs.{Tells}
use Rattle.trace_shape.proofs.shaping.moments.Given as goal

abbrev pub invariant-loop-r : goal.invariant-loop-r
invariant-loop-r l = Tells l.trace l.rate l.burst l.buckets.items l.moments.items l.r
