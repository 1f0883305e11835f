use Rattle.ever_laws.proofs.Caps.{cap_near_waiting}
use Rattle.ever_laws.proofs.laws.cap_stays_near.Goals as goal

pub returns : goal.returns
returns c = cap_near_waiting
