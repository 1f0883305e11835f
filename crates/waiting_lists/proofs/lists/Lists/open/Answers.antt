use Rattle.std.proofs.Common.{◌<◌, max, arith}
use Rattle.waiting_lists.proofs.Opens.{opened_keeps, opened_whole}
use Rattle.waiting_lists.proofs.lists.Lists.open.Goals as goal

pub invariant_of-result : goal.invariant_of-result
invariant_of-result g c =
    let some : 0 < max c.args.slots 1 = omega arith in
    opened_keeps c.in_ok-with_capacity.field-0.items c.args.tenants c.args.slots _ (max c.args.slots 1) c.in_ok-cells.cells.items c.in_ok-ends.ends.items c.in_ok-with_capacity.ensures.items c.in_ok-cells.ensures some c.in_ok-ends.ensures c.in_ok-with_capacity.ensures.capacity

pub returns : goal.returns
returns g c =
    opened_whole c.in_ok-with_capacity.field-0.items c.args.tenants c.args.slots c.in_ok-ends.ends.items c.in_ok-with_capacity.ensures.items c.in_ok-ends.ensures
