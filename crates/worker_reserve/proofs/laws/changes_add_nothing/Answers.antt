use Rattle.worker_reserve.proofs.Courses.{changes_add_nothing}
use Rattle.worker_reserve.proofs.laws.changes_add_nothing.Goals as goal

pub returns : goal.returns
returns c = changes_add_nothing
