use Rattle.limit_laws.proofs.Alike.{alike}
use Rattle.limit_laws.proofs.laws.limits_change_no_number.Goals as goal

pub returns : goal.returns
returns c = alike
