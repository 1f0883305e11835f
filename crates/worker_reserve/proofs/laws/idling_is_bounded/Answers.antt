use Rattle.worker_reserve.proofs.Spending.{idling_is_bounded}
use Rattle.worker_reserve.proofs.laws.idling_is_bounded.Goals as goal

pub returns : goal.returns
returns c = idling_is_bounded
