use Rattle.desk.proofs.Keeping.{opens_keeping}
use Rattle.desk.proofs.floor.Floor.open.Goals as goal

pub invariant_of-result : goal.invariant_of-result
invariant_of-result g c = opens_keeping c.args.config c.args.submitters c.in_ok-scheduler.scheduler c.args.shown c.in_ok-scheduler.ensures c.requires.limits c.requires.shown
