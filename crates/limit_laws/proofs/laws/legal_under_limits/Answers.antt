use Rattle.limit_laws.proofs.Legal.{legal_under}
use Rattle.limit_laws.proofs.laws.legal_under_limits.Goals as goal

pub returns : goal.returns
returns c = legal_under
