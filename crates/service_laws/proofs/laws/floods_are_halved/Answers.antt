use Rattle.service_laws.proofs.Floods.{floods_are_halved}
use Rattle.service_laws.proofs.laws.floods_are_halved.Goals as goal

pub returns : goal.returns
returns c = floods_are_halved
