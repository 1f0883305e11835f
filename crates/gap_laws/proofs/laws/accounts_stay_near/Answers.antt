use Rattle.gap_laws.proofs.Service.{accounts_near}
use Rattle.gap_laws.proofs.laws.accounts_stay_near.Goals as goal

pub returns : goal.returns
returns c = accounts_near
