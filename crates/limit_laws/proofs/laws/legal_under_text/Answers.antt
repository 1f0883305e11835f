use Rattle.limit_laws.proofs.Legal.{legal_text}
use Rattle.limit_laws.proofs.laws.legal_under_text.Goals as goal

pub returns : goal.returns
returns c = legal_text
