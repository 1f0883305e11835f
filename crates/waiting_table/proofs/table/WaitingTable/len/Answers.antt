use Rattle.std.proofs.Common.{subst}
use Rattle.waiting_table.specs.Table.{IsTable}
use Rattle.waiting_table.proofs.Tables.{is_table}
use Rattle.waiting_table.proofs.table.WaitingTable.len.Goals as goal

pub returns-clause-table : goal.returns-clause-table
returns-clause-table c = subst IsTable c.self.view_is (is_table c.self.inside.order c.self.inside.free.items _ c.self.inside.deadlines c.self.invariant)
