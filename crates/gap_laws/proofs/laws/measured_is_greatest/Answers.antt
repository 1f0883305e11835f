use Rattle.gap_laws.proofs.Measured.{measured_greatest}
use Rattle.gap_laws.proofs.laws.measured_is_greatest.Goals as goal

pub returns : goal.returns
returns c = measured_greatest
