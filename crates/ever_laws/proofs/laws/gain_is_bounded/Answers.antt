use Rattle.ever_laws.proofs.Gains.{gain_bounded}
use Rattle.ever_laws.proofs.laws.gain_is_bounded.Goals as goal

pub returns : goal.returns
returns c = gain_bounded
