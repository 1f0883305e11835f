use Rattle.std.proofs.Common.{◌≡◌}
use Rattle.scheduler_tests.proofs.estimate_tests.expect_learned.Given as goal

abbrev pub invariant-loop-cost : goal.invariant-loop-cost
invariant-loop-cost g l = record {
  tenants : g.E.Estimate.tenants l.estimator ≡ g.E.Estimate.tenants l.fn.estimator;
  kinds : g.E.Estimate.kinds l.estimator ≡ g.E.Estimate.kinds l.fn.estimator;
}
