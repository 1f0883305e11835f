use Rattle.request_limits.proofs.Orders.{next_is_oldest}
use Rattle.request_limits.proofs.laws.next_is_oldest.Goals as goal

pub returns : goal.returns
returns c = next_is_oldest
