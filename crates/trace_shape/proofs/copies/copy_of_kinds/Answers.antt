use Rattle.trace_shape.proofs.Names.{new_name, one_kind_more}
use Rattle.trace_shape.proofs.copies.copy_of_kinds.Goals as goal

pub add_new-requires-clause-absent : goal.add_new-requires-clause-absent
add_new-requires-clause-absent c = rw c.loop-k.invariant (new_name _ c.args.kinds.now c.loop-k.k _ c.name.ensures.limits c.name.ensures.value)

pub loop-k-preserved : goal.loop-k-preserved
loop-k-preserved c = one_kind_more c.args.kinds.now c.loop-k.copy c.add_new.new.self c.loop-k.k _ c.loop-k.invariant c.name.ensures.value c.in_ok-add_new.ensures.added
