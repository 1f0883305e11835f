use Rattle.limit_laws.proofs.Legal.{keep_text}
use Rattle.limit_laws.proofs.laws.numbers_keep_text.Goals as goal

pub returns : goal.returns
returns c = keep_text
