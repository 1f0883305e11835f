use Rattle.worker_reserve.proofs.Courses.{pauses_are_timely}
use Rattle.worker_reserve.proofs.laws.pauses_are_timely.Goals as goal

pub returns : goal.returns
returns c = pauses_are_timely
