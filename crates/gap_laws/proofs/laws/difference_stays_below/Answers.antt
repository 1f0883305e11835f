use Rattle.gap_laws.proofs.WorstCase.{difference_below_all}
use Rattle.gap_laws.proofs.laws.difference_stays_below.Goals as goal

pub returns : goal.returns
returns c = difference_below_all
