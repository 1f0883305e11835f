use Rattle.request_limits.proofs.Apart.{cells_are_apart}
use Rattle.request_limits.proofs.laws.cells_are_apart.Goals as goal

pub returns : goal.returns
returns c = cells_are_apart
