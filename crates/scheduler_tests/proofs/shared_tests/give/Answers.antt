use Rattle.std.proofs.Common.{sym, subst}
use Rattle.tag_rules.specs.Tables.{ChooserView}
use Rattle.scheduler_tests.specs.ByTenant.{IsByTenant}
use Rattle.scheduler_tests.proofs.ByTenant.{new_by_tenant, by_tenant_set}
use Rattle.scheduler_tests.proofs.shared_tests.give.Goals as goal

pub set-requires-clause-new_request : goal.set-requires-clause-new_request
set-requires-clause-new_request g c = new_by_tenant (g.X.Chooser.seen c.args.chooser.now).table c.args.tenant c.args.keys c.requires.by_tenant c.requires.own

pub returns-clause-by_tenant : goal.returns-clause-by_tenant
returns-clause-by_tenant g c = subst (λ (x : ChooserView). IsByTenant x.table) (sym c.set.ensures) (by_tenant_set (g.X.Chooser.seen c.args.chooser.now).table c.args.tenant c.args.keys c.requires.by_tenant c.requires.own)
