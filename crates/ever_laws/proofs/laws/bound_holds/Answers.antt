use Rattle.ever_laws.proofs.Bound.{bound_holds}
use Rattle.ever_laws.proofs.laws.bound_holds.Goals as goal

pub returns : goal.returns
returns c = bound_holds
