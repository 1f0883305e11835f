use Rattle.gap_laws.proofs.Measured.{measured_bounded}
use Rattle.gap_laws.proofs.laws.measured_is_bounded.Goals as goal

pub returns : goal.returns
returns c = measured_bounded
