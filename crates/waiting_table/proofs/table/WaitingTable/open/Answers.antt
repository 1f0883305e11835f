use Rattle.std.proofs.Common.{arith}
use Rattle.waiting_table.proofs.Tables.{keeps_opened}
use Rattle.waiting_table.proofs.table.WaitingTable.open.Goals as goal

pub invariant_of-result : goal.invariant_of-result
invariant_of-result c =
    rw (c.in_ok-order.ensures, c.in_ok-deadlines.ensures)
    (keeps_opened c.args.room _ c.in_ok-free.free.items c.in_ok-free.ensures.places c.in_ok-free.ensures.all (omega (arith, c.in_ok-free.ensures.reserved)))
