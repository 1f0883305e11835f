use Rattle.std.proofs.Common.{length, ◌-◌, ◌≡◌}
use Rattle.fluid_reference.specs.Slots.{HaveJoined, AreBacklogged}
use Rattle.fluid_reference.proofs.joining.join.Given as goal

abbrev pub invariant-join : goal.invariant-join
invariant-join l = record {
  len : length l.costs ≡ length l.fn.costs;
  joined : HaveJoined l.sorted l.at l.joined l.costs;
  backlogged : AreBacklogged l.fn.costs l.served l.fn.backlogged.items → AreBacklogged l.costs l.served l.backlogged.items;
}

abbrev pub decreases-join : goal.decreases-join
decreases-join l = length l.sorted - l.joined
