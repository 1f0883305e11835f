use Rattle.shared_order.proofs.Reach.{eligible_in_reach}
use Rattle.shared_order.proofs.laws.eligible_is_in_reach.Goals as goal

pub returns : goal.returns
returns c = eligible_in_reach
