use Rattle.gap_laws.proofs.Told.{gap_there}
use Rattle.gap_laws.proofs.laws.gap_is_there.Goals as goal

pub returns : goal.returns
returns c = gap_there
