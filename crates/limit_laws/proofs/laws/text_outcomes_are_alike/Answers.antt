use Rattle.limit_laws.proofs.Replies.{text_outcomes_alike}
use Rattle.limit_laws.proofs.laws.text_outcomes_are_alike.Goals as goal

pub returns : goal.returns
returns c = text_outcomes_alike
