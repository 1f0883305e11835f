use Rattle.tenant_table.specs.Rows.{kinds_of}
use Rattle.tenant_table.proofs.Tables.{names_push}
use Rattle.tenant_table.proofs.kinds_builder.KindsBuilder.add_new.Goals as goal

pub invariant_of-self-2 : goal.invariant_of-self-2
invariant_of-self-2 c =
    let r = rw (← c.self.view_is) at c.requires in
    rw c.in_ok-put.ensures.ok (names_push 64 (kinds_of c.self.inside.names.keys) c.args.name.now c.self.invariant r.spelled r.absent r.room)
