use Rattle.std.proofs.Common.{◌≡◌, length, take}
use Rattle.fluid_reference.proofs.Backlogged.{IsGiven}
use Rattle.fluid_reference.proofs.sharing.share.Given as goal

abbrev pub invariant-loop-k : goal.invariant-loop-k
invariant-loop-k l = record {
  len : length l.served ≡ length l.fn.served;
  given : IsGiven l.level l.costs l.fn.served l.weights (take l.k l.backlogged) l.served;
}
