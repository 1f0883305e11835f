use Rattle.limit_laws.proofs.Replies.{outcomes_alike}
use Rattle.limit_laws.proofs.laws.outcomes_are_alike.Goals as goal

pub returns : goal.returns
returns c = outcomes_alike
