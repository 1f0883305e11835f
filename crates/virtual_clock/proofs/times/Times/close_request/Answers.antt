use Rattle.std.proofs.Common.{arith, ap}
use Rattle.std.proofs.lemmas.Int.{ints}
use Rattle.virtual_clock.specs.Clock.{ClockView}
use Rattle.virtual_clock.proofs.EndSteps.{may_end}
use Rattle.virtual_clock.proofs.times.Times.close_request.Goals as goal

pub close_one-requires-clause-tenant : goal.close_one-requires-clause-tenant
close_one-requires-clause-tenant c = (may_end c.args.policy c.args.moment c.args.tenant c.args.start c.args.self.now c.requires).kept

pub close_one-requires-clause-some : goal.close_one-requires-clause-some
close_one-requires-clause-some c = (may_end c.args.policy c.args.moment c.args.tenant c.args.start c.args.self.now c.requires).some

pub close_one-requires-clause-later : goal.close_one-requires-clause-later
close_one-requires-clause-later c =
    let earlier = (may_end c.args.policy c.args.moment c.args.tenant c.args.start c.args.self.now c.requires).earlier in
    omega (arith, ints, earlier, c.now.ensures.value, ap (λ (k : ClockView). k.time) c.to.ensures)

pub retire-requires-clause-entered : goal.retire-requires-clause-entered
retire-requires-clause-entered c =
    let entered = (may_end c.args.policy c.args.moment c.args.tenant c.args.start c.args.self.now c.requires).entered in
    omega (arith, entered, ap (λ (k : ClockView). k.weights) c.to.ensures)
