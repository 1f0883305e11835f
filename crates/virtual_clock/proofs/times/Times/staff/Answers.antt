use Rattle.virtual_clock.proofs.ChangeSteps.{may_staff, follows_workers}
use Rattle.virtual_clock.proofs.times.Times.staff.Goals as goal

pub to-requires-clause-later : goal.to-requires-clause-later
to-requires-clause-later c = (may_staff c.args.moment c.args.count c.args.self.now c.requires).moves.later

pub to-requires-clause-in_range : goal.to-requires-clause-in_range
to-requires-clause-in_range c = (may_staff c.args.moment c.args.count c.args.self.now c.requires).moves.in_range

pub settle-requires : goal.settle-requires
settle-requires c = rw (c.staff.ensures, c.to.ensures) (may_staff c.args.moment c.args.count c.args.self.now c.requires).is_counted

pub returns : goal.returns
returns c = follows_workers c.args.moment c.args.count c.args.self.now _ (rw (c.staff.ensures, c.to.ensures) at c.settle.ensures)
