use Rattle.request_limits.proofs.Orders.{none_is_left}
use Rattle.request_limits.proofs.laws.none_is_left.Goals as goal

pub returns : goal.returns
returns c = none_is_left
