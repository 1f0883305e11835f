use Rattle.ever_laws.proofs.Charges.{charge_bounded}
use Rattle.ever_laws.proofs.laws.charge_is_bounded.Goals as goal

pub returns : goal.returns
returns c = charge_bounded
