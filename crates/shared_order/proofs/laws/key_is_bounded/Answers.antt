use Rattle.shared_order.proofs.Reach.{key_bounded}
use Rattle.shared_order.proofs.laws.key_is_bounded.Goals as goal

pub returns : goal.returns
returns c = key_bounded
