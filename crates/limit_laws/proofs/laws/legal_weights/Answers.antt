use Rattle.limit_laws.proofs.Legal.{legal_allowed}
use Rattle.limit_laws.proofs.laws.legal_weights.Goals as goal

pub returns : goal.returns
returns c = legal_allowed
