use Rattle.shared_order.proofs.Reach.{key_less}
use Rattle.shared_order.proofs.laws.key_is_finish_less.Goals as goal

pub returns : goal.returns
returns c = key_less
