use Rattle.gap_laws.proofs.Service.{gain_below}
use Rattle.gap_laws.proofs.laws.gain_stays_below.Goals as goal

pub returns : goal.returns
returns c = gain_below
