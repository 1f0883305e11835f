use Rattle.gap_laws.proofs.WorstCase.{worst_lead_below}
use Rattle.gap_laws.proofs.laws.worst_lead_stays_below.Goals as goal

pub returns : goal.returns
returns c = worst_lead_below
