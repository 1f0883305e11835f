use Rattle.std.proofs.Common.{◌≡◌, take, filter}
use Rattle.fluid_reference.specs.Slots.{has_backlog}
use Rattle.fluid_reference.proofs.sharing.note_backlogged.Given as goal

abbrev pub invariant-loop-t : goal.invariant-loop-t
invariant-loop-t l = l.left.items ≡ filter (has_backlog l.costs l.served) (take l.t-index l.tenants)
