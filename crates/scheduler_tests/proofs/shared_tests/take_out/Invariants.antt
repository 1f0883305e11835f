use Rattle.std.proofs.Common.{◌≡◌}
use Rattle.scheduler_tests.proofs.shared_tests.take_out.Given as goal

abbrev pub invariant-loop-tenant : goal.invariant-loop-tenant
invariant-loop-tenant g l = record {
  setting : (g.X.Chooser.seen l.chooser).setting ≡ (g.X.Chooser.seen l.fn.chooser).setting;
  latest : (g.X.Chooser.seen l.chooser).latest ≡ (g.X.Chooser.seen l.fn.chooser).latest;
}
