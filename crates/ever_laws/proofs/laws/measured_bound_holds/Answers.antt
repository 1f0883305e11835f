use Rattle.ever_laws.proofs.Measured.{measured_bound_holds}
use Rattle.ever_laws.proofs.laws.measured_bound_holds.Goals as goal

pub returns : goal.returns
returns c = measured_bound_holds
