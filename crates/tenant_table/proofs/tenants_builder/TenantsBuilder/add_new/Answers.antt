use Rattle.tenant_table.specs.Rows.{tenants_of}
use Rattle.tenant_table.proofs.Tables.{tenants_push}
use Rattle.tenant_table.proofs.tenants_builder.TenantsBuilder.add_new.Goals as goal

pub invariant_of-self-2 : goal.invariant_of-self-2
invariant_of-self-2 c =
    let r = rw (← c.self.view_is) at c.requires in
    rw c.in_ok-put.ensures.ok (tenants_push (tenants_of c.self.inside.rows.entries) c.args.name.now c.args.weight c.self.invariant r.spelled r.weighs r.absent r.room)
