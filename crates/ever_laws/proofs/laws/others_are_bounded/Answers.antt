use Rattle.ever_laws.proofs.Charges.{others_bounded}
use Rattle.ever_laws.proofs.laws.others_are_bounded.Goals as goal

pub returns : goal.returns
returns c = others_bounded
