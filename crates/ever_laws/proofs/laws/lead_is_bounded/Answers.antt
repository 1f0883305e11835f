use Rattle.ever_laws.proofs.Bound.{lead_bounded}
use Rattle.ever_laws.proofs.laws.lead_is_bounded.Goals as goal

pub returns : goal.returns
returns c = lead_bounded
