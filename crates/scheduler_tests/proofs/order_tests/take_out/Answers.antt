use Rattle.std.proofs.Common.{arith, subst, sym}
use Rattle.std.specs.List.{Contains}
use Rattle.shared_order.specs.Heads.{Gains}
use Rattle.scheduler_tests.proofs.NumberedHeads.{numbers_leave}
use Rattle.scheduler_tests.proofs.order_tests.take_out.Goals as goal

pub remove-requires : goal.remove-requires
remove-requires c = subst (Contains c.loop-number.order.heads) (sym c.head.ensures) (c.loop-number.invariant.there c.loop-number.number (omega arith) c.loop-number-test.true)

pub loop-number-preserved : goal.loop-number-preserved
loop-number-preserved c =
    let old = c.loop-number.order.heads in
    let new = c.remove.new.self.heads in
    let g = subst (λ h. Gains new h old) c.head.ensures c.remove.ensures.gains in
    record {
      there = numbers_leave new old c.loop-number.number _ _ (omega arith) g (λ k low high. c.loop-number.invariant.there k (omega (arith, low)) high);
      later = λ all. numbers_leave new old c.loop-number.number _ _ c.loop-number-test.true g (c.loop-number.invariant.later all);
    }
