use Rattle.waiting_table.proofs.Tables.{keeps_forwarded}
use Rattle.waiting_table.proofs.table.WaitingTable.forward.Goals as goal

pub invariant_of-self : goal.invariant_of-self
invariant_of-self c = rw c.forward.ensures.forwarded (keeps_forwarded c.self.inside.order c.self.inside.free.items _ c.self.inside.deadlines c.self.invariant c.args.ticket c.args.request)
