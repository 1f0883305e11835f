use Rattle.trace_shape.proofs.Names.{new_tenant, one_tenant_more}
use Rattle.trace_shape.proofs.copies.copy_of_tenants.Goals as goal

pub add_new-requires-clause-absent : goal.add_new-requires-clause-absent
add_new-requires-clause-absent c = new_tenant _ c.args.tenants.now c.loop-t.copy c.loop-t.t _ c.loop-t.invariant c.name.ensures.limits.names c.name.ensures.value

pub loop-t-preserved : goal.loop-t-preserved
loop-t-preserved c = one_tenant_more c.args.tenants.now c.loop-t.copy c.add_new.new.self c.loop-t.t _ c.weight.result c.loop-t.invariant c.name.ensures.value c.weight.ensures.value c.in_ok-add_new.ensures.added
