use Rattle.limit_laws.proofs.Replies.{answers_alike}
use Rattle.limit_laws.proofs.laws.answers_are_alike.Goals as goal

pub returns : goal.returns
returns c = answers_alike
