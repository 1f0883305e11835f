use Rattle.shared_order.proofs.Reach.{reach_bounded}
use Rattle.shared_order.proofs.laws.reach_is_bounded.Goals as goal

pub returns : goal.returns
returns c = reach_bounded
