use Rattle.std.proofs.Common.{◌≡◌, take, map}
use Rattle.fluid_reference.specs.Slots.{want_of}
use Rattle.fluid_reference.proofs.sharing.note_wants.Given as goal

abbrev pub invariant-loop-t : goal.invariant-loop-t
invariant-loop-t l = l.wants.items ≡ map (want_of l.costs l.served l.weights) (take l.t-index l.tenants)
