use Rattle.std.proofs.Common.{◌≡◌, take}
use Rattle.trace_shape.proofs.copies.copy_of_tenants.Given as goal

abbrev pub invariant-loop-t : goal.invariant-loop-t
invariant-loop-t l = l.copy ≡ take l.t l.tenants
