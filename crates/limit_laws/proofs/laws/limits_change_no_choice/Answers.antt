use Rattle.limit_laws.proofs.Alike.{chosen_alike}
use Rattle.limit_laws.proofs.laws.limits_change_no_choice.Goals as goal

pub returns : goal.returns
returns c = chosen_alike
