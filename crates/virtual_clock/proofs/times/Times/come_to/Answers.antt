use Rattle.virtual_clock.proofs.TimeSteps.{times_come}
use Rattle.virtual_clock.proofs.times.Times.come_to.Goals as goal

pub returns : goal.returns
returns c = λ C P lim l is. rw (c.to.ensures) (times_come C P c.args.moment c.args.self.now lim l (rw is.clock_is.moment at c.requires.later) c.requires.in_range is)
