use Rattle.std.proofs.Common.{arith, subst, add-one}
use Rattle.shared_order.specs.Heads.{Gains}
use Rattle.shared_order.proofs.Changes.{gains_length}
use Rattle.scheduler_tests.proofs.NumberedHeads.{numbers_below, numbers_gain}
use Rattle.scheduler_tests.proofs.order_tests.seventy.Goals as goal

pub loop-number-preserved : goal.loop-number-preserved
loop-number-preserved g c =
    let old = c.loop-number.order.heads in
    let new = c.insert.new.self.heads in
    let g = subst (λ h. Gains old h new) c.head.ensures c.insert.ensures.gains in
    record {
      room = omega (arith, c.insert.ensures.room, c.loop-number.invariant.room);
      count = omega (arith, gains_length old new _ g, c.loop-number.invariant.count);
      before = numbers_below old new c.loop-number.number _ (add-one _) g c.loop-number.invariant.before;
      there = numbers_gain old new c.loop-number.number _ (add-one _) g c.loop-number.invariant.there;
    }
