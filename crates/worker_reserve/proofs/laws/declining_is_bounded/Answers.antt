use Rattle.worker_reserve.proofs.Courses.{declining_is_bounded}
use Rattle.worker_reserve.proofs.laws.declining_is_bounded.Goals as goal

pub returns : goal.returns
returns c = declining_is_bounded
