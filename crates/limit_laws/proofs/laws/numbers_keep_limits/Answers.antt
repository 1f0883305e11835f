use Rattle.limit_laws.proofs.Legal.{keep_limits}
use Rattle.limit_laws.proofs.laws.numbers_keep_limits.Goals as goal

pub returns : goal.returns
returns c = keep_limits
