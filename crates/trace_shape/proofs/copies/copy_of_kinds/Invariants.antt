use Rattle.std.proofs.Common.{◌≡◌, take}
use Rattle.trace_shape.proofs.copies.copy_of_kinds.Given as goal

abbrev pub invariant-loop-k : goal.invariant-loop-k
invariant-loop-k l = l.copy ≡ take l.k l.kinds
