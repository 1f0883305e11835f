use Rattle.std.proofs.Common.{subst, length}
use Rattle.fluid_reference.specs.Slots.{SetsInRange}
use Rattle.fluid_reference.proofs.Steps.{set_weight, set_workers}
use Rattle.fluid_reference.proofs.setting.make.Goals as goal

pub returns-in-Weight-clause-set : goal.returns-in-Weight-clause-set
returns-in-Weight-clause-set c = λ C older set. set_weight C older c.args.change c.args.weights.now c.args.workers.now c.in-Weight.tenant c.in-Weight.weight c.in-Weight.is (subst (SetsInRange (length c.args.weights.now)) c.in-Weight.is c.requires.in_range).0 set

pub returns-in-Workers-clause-set : goal.returns-in-Workers-clause-set
returns-in-Workers-clause-set c = λ C older set. set_workers C older c.args.change c.args.weights.now c.args.workers.now c.in-Workers.count c.in-Workers.is set
