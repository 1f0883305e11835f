use Rattle.ever_laws.proofs.Grounds.{ground_rises}
use Rattle.ever_laws.proofs.laws.ground_rises.Goals as goal

pub returns : goal.returns
returns c = ground_rises
