use Rattle.limit_laws.proofs.Legal.{text_legal}
use Rattle.limit_laws.proofs.laws.text_is_legal.Goals as goal

pub returns : goal.returns
returns c = text_legal
