use Rattle.length_laws.proofs.Foretold.{worst_foretold}
use Rattle.length_laws.proofs.laws.worst_lead_is_foretold.Goals as goal

pub returns : goal.returns
returns c = worst_foretold
