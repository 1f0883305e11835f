use Rattle.gap_laws.proofs.Gaps.{gap_below}
use Rattle.gap_laws.proofs.laws.gap_stays_below.Goals as goal

pub returns : goal.returns
returns c = gap_below
