use Rattle.virtual_clock.proofs.TimeSteps.{may_submit, follows_submit}
use Rattle.virtual_clock.proofs.times.Times.submit.Goals as goal

pub settle-requires : goal.settle-requires
settle-requires c = rw (c.open_request.ensures) (may_submit c.args.moment c.args.tenant c.args.self.now c.requires).is_counted

pub returns : goal.returns
returns c = follows_submit c.args.moment c.args.tenant c.args.self.now _ (rw (c.open_request.ensures) at c.settle.ensures)
