use Rattle.std.proofs.Common.{[]}
use Rattle.std.proofs.lemmas.Option.{get_or_from_slice_get}
use Rattle.trace_reader.proofs.printing.request_line.Goals as goal

pub returns : goal.returns
returns c =
    let tenant = rw c.tenants.ensures.names at c.name-tenant.ensures.value in
    let kind = rw c.kinds.ensures at c.name-kind.ensures.value in
    rw (
      get_or_from_slice_get c.args.trace.now.tenants c.args.row.now.tenant c.name-tenant.result.now [] tenant,
      get_or_from_slice_get c.args.trace.now.kinds c.args.row.now.kind c.name-kind.result.now [] kind,
    ) c.named_line.ensures
