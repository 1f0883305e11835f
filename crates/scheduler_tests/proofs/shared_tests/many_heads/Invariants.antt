use Rattle.std.proofs.Common.{◌≡◌, pos}
use Rattle.fq_model.specs.declared.config.Policy.TheVariants.{Wf2q}
use Rattle.scheduler_tests.specs.ByTenant.{IsByTenant}
use Rattle.scheduler_tests.proofs.shared_tests.many_heads.Given as goal

abbrev pub invariant-loop-tenant : goal.invariant-loop-tenant
invariant-loop-tenant g l = record {
  setting : (g.X.Chooser.seen l.chooser).setting ≡ record { policy = Wf2q; most_workers = 1; workers = 1; tenants = 41 };
  latest : (g.X.Chooser.seen l.chooser).latest ≡ pos 0;
  by_tenant : IsByTenant (g.X.Chooser.seen l.chooser).table;
}
