use Rattle.ever_laws.proofs.Bound.{accounts_bounded}
use Rattle.ever_laws.proofs.laws.accounts_are_bounded.Goals as goal

pub returns : goal.returns
returns c = accounts_bounded
