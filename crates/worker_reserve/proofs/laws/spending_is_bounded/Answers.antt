use Rattle.worker_reserve.proofs.Spending.{spending_is_bounded}
use Rattle.worker_reserve.proofs.laws.spending_is_bounded.Goals as goal

pub returns : goal.returns
returns c = spending_is_bounded
