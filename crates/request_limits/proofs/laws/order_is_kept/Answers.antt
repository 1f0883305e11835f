use Rattle.request_limits.proofs.Orders.{order_is_kept}
use Rattle.request_limits.proofs.laws.order_is_kept.Goals as goal

pub returns : goal.returns
returns c = order_is_kept
