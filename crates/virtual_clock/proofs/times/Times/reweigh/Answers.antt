use Rattle.virtual_clock.proofs.ChangeSteps.{may_reweigh, follows_weight}
use Rattle.virtual_clock.proofs.times.Times.reweigh.Goals as goal

pub settle-requires : goal.settle-requires
settle-requires c = rw (c.trade.ensures) (may_reweigh c.args.moment c.args.tenant c.args.weight c.args.self.now c.requires).is_counted

pub returns : goal.returns
returns c = follows_weight c.args.moment c.args.tenant c.args.weight c.args.self.now _ (rw (c.trade.ensures) at c.settle.ensures)
