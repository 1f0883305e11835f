use Rattle.std.proofs.Common.{arith, ap, refl, sym, ◌∙◌}
use Rattle.virtual_clock.specs.Clock.{ClockView}
use Rattle.virtual_clock.proofs.ChangeSteps.{may_reweigh}
use Rattle.virtual_clock.proofs.times.Times.trade.Goals as goal
use Rattle.virtual_clock.proofs.times.Times.trade.Goals.{then-counts, else-counts}

pub leave-requires-clause-entered : goal.leave-requires-clause-entered
leave-requires-clause-entered c =
    let entered = (may_reweigh c.args.moment c.args.tenant c.args.weight c.args.self.now c.requires).entered (sym c.counts.ensures ∙ c.if-counts.true) in
    omega (arith, entered, c.of.ensures.value, ap (λ (k : ClockView). k.weights) c.to.ensures)

pub enter-requires-clause-room : goal.enter-requires-clause-room
enter-requires-clause-room c =
    let room = (may_reweigh c.args.moment c.args.tenant c.args.weight c.args.self.now c.requires).room (sym c.counts.ensures ∙ c.if-counts.true) in
    omega (arith, room, c.of.ensures.value, ap (λ (k : ClockView). k.weights) c.to.ensures, ap (λ (k : ClockView). k.weights) c.leave.ensures)

pub returns : goal.returns
returns c = elim c.if-counts.branch [
  | then-counts w ↦ rw (c.set.ensures, w.self-is, w.enter.ensures, w.leave.ensures, c.to.ensures, w.of.ensures.value, sym c.counts.ensures ∙ w.if-counts.true) refl
  | else-counts w ↦ rw (c.set.ensures, w.self-is, c.to.ensures, sym c.counts.ensures ∙ w.if-counts.false) refl
]
