use Rattle.shared_order.proofs.Reach.{key_by_its_finish}
use Rattle.shared_order.proofs.laws.key_is_by_finish.Goals as goal

pub returns : goal.returns
returns c = key_by_its_finish
