use Rattle.std.proofs.Common.{sym}
use Rattle.tenant_table.proofs.Tables.{weight_at, row_at}
use Rattle.tenant_table.proofs.tenants.Tenants.weight.Goals as goal

pub returns-clause-value : goal.returns-clause-value
returns-clause-value c =
    let rows = c.self.inside.rows.items in
    let row = row_at rows c.args.t c.index.result.now (rw (← c.self.view_is) at c.requires) c.index.ensures in
    rw (← c.self.view_is) (sym (weight_at rows c.args.t c.index.result.now row))
