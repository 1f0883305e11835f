use Rattle.worker_reserve.proofs.Signed.{credit_is_read}
use Rattle.worker_reserve.proofs.laws.credit_is_read.Goals as goal

pub returns : goal.returns
returns c = credit_is_read
