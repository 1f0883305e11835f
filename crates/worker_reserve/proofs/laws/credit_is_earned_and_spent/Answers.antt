use Rattle.worker_reserve.proofs.Signed.{credit_is_earned_and_spent}
use Rattle.worker_reserve.proofs.laws.credit_is_earned_and_spent.Goals as goal

pub returns : goal.returns
returns c = credit_is_earned_and_spent
