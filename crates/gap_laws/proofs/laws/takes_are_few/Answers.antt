use Rattle.gap_laws.proofs.Takes.{takes_few}
use Rattle.gap_laws.proofs.laws.takes_are_few.Goals as goal

pub returns : goal.returns
returns c = takes_few
