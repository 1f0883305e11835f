use Rattle.shared_order.proofs.Reach as reach
use Rattle.shared_order.proofs.laws.products_fit.Goals as goal

pub returns : goal.returns
returns c = reach.products_fit
