use Rattle.ever_laws.proofs.Grounds.{least_rises}
use Rattle.ever_laws.proofs.laws.least_rises.Goals as goal

pub returns : goal.returns
returns c = least_rises
