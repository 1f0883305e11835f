use Rattle.std.proofs.Common.{◌≡◌, ◌∙◌, arith}
use Rattle.program_model.specs.Generator.{generated_name}
use Rattle.trace_reader.proofs.GeneratedTenants.{name_spelled, name_absent, as_many_tenants, names_more, weights_more}
use Rattle.trace_reader.proofs.generating.generated_tenants.Goals as goal

pub add_new-requires-clause-spelled : goal.add_new-requires-clause-spelled
add_new-requires-clause-spelled c = rw (c.deref.ensures, c.in_ok-name.ensures.ok) (name_spelled c.loop-t.t-counter (omega arith))

pub add_new-requires-clause-absent : goal.add_new-requires-clause-absent
add_new-requires-clause-absent c = rw (c.loop-t.invariant.names, c.deref.ensures, c.in_ok-name.ensures.ok) (name_absent c.loop-t.t-counter (omega arith))

pub add_new-requires-clause-room : goal.add_new-requires-clause-room
add_new-requires-clause-room c = omega (arith, as_many_tenants c.loop-t.tenants c.loop-t.t-counter c.loop-t.invariant.names)

pub loop-t-preserved : goal.loop-t-preserved
loop-t-preserved c =
    let name : c.deref.result.now ≡ generated_name c.loop-t.t-counter = c.deref.ensures ∙ c.in_ok-name.ensures.ok in
    record {
      names = names_more c.loop-t.tenants c.add_new.new.self c.loop-t.t-counter c.deref.result.now _ c.loop-t.invariant.names name c.in_ok-add_new.ensures.added;
      weights = weights_more c.loop-t.tenants c.add_new.new.self c.loop-t.t-counter c.deref.result.now _ c.loop-t.invariant.weights (omega arith) c.in_ok-add_new.ensures.added;
    }
