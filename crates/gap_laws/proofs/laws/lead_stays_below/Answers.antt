use Rattle.gap_laws.proofs.WorstCase.{lead_stays_below}
use Rattle.gap_laws.proofs.laws.lead_stays_below.Goals as goal

pub returns : goal.returns
returns c = lead_stays_below
