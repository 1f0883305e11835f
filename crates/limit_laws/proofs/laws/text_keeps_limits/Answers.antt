use Rattle.limit_laws.proofs.Legal.{text_keeps}
use Rattle.limit_laws.proofs.laws.text_keeps_limits.Goals as goal

pub returns : goal.returns
returns c = text_keeps
