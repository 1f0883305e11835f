use Rattle.ever_laws.proofs.Counts.{takes_bounded}
use Rattle.ever_laws.proofs.laws.takes_are_bounded.Goals as goal

pub returns : goal.returns
returns c = takes_bounded
