use Rattle.scheduler_tests.specs.Numbered.{HasNumbers}
use Rattle.scheduler_tests.proofs.order_tests.take_out.Given as goal

abbrev pub invariant-loop-number : goal.invariant-loop-number
invariant-loop-number l = record {
  there : HasNumbers l.order.heads l.number l.to;
  later : HasNumbers l.fn.order.heads l.to 70 → HasNumbers l.order.heads l.to 70;
}
