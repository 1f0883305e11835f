use Rattle.waiting_room.proofs.Always.{floods_are_halved}
use Rattle.waiting_room.proofs.laws.floods_are_halved.Goals as goal

pub returns : goal.returns
returns c = floods_are_halved
