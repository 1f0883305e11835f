use Rattle.std.proofs.Common.{length, ◌-◌}
use Rattle.fluid_reference.specs.Slots.{CameBy}
use Rattle.fluid_reference.proofs.replaying.join_own.Given as goal

abbrev pub invariant-join : goal.invariant-join
invariant-join l = CameBy l.own l.at l.joined l.cost

abbrev pub decreases-join : goal.decreases-join
decreases-join l = length l.own - l.joined
