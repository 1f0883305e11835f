use Rattle.std.proofs.Common.{arith, ap, sym, ◌∙◌}
use Rattle.std.proofs.lemmas.Int.{ints}
use Rattle.virtual_clock.specs.Clock.{ClockView}
use Rattle.virtual_clock.proofs.TimeSteps.{may_submit}
use Rattle.virtual_clock.proofs.times.Times.open_request.Goals as goal

pub to-requires-clause-later : goal.to-requires-clause-later
to-requires-clause-later c = (may_submit c.args.moment c.args.tenant c.args.self.now c.requires).moves.later

pub open_one-requires-clause-few : goal.open_one-requires-clause-few
open_one-requires-clause-few c = (may_submit c.args.moment c.args.tenant c.args.self.now c.requires).few

pub open_one-requires-clause-later : goal.open_one-requires-clause-later
open_one-requires-clause-later c =
    let earlier = (may_submit c.args.moment c.args.tenant c.args.self.now c.requires).earlier in
    omega (arith, ints, earlier, c.now.ensures.value, ap (λ (k : ClockView). k.time) c.to.ensures)

pub rejoin-requires-clause-room : goal.rejoin-requires-clause-room
rejoin-requires-clause-room c = rw (c.to.ensures) ((may_submit c.args.moment c.args.tenant c.args.self.now c.requires).room (sym c.open_one.ensures.woke ∙ c.if-open_one.true))
