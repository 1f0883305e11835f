use Rattle.ever_laws.proofs.Foretold.{lead_foretold}
use Rattle.ever_laws.proofs.laws.lead_is_foretold.Goals as goal

pub returns : goal.returns
returns c = lead_foretold
