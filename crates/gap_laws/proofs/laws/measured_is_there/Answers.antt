use Rattle.gap_laws.proofs.Measured.{measured_there}
use Rattle.gap_laws.proofs.laws.measured_is_there.Goals as goal

pub returns : goal.returns
returns c = measured_there
