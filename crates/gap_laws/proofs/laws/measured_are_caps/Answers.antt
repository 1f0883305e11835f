use Rattle.gap_laws.proofs.Measured.{measured_caps}
use Rattle.gap_laws.proofs.laws.measured_are_caps.Goals as goal

pub returns : goal.returns
returns c = measured_caps
