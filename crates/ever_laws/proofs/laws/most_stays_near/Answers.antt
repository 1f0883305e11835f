use Rattle.ever_laws.proofs.Near.{most_near}
use Rattle.ever_laws.proofs.laws.most_stays_near.Goals as goal

pub returns : goal.returns
returns c = most_near
