use Rattle.virtual_clock.proofs.TimeSteps.{may_pass, follows_pass}
use Rattle.virtual_clock.proofs.times.Times.pass.Goals as goal

pub to-requires-clause-later : goal.to-requires-clause-later
to-requires-clause-later c = (may_pass c.args.moment c.args.self.now c.requires).0.later

pub to-requires-clause-in_range : goal.to-requires-clause-in_range
to-requires-clause-in_range c = (may_pass c.args.moment c.args.self.now c.requires).0.in_range

pub settle-requires : goal.settle-requires
settle-requires c = rw (c.to.ensures) (may_pass c.args.moment c.args.self.now c.requires).1

pub returns : goal.returns
returns c = follows_pass c.args.moment c.args.self.now _ (rw (c.to.ensures) at c.settle.ensures)
