use Rattle.std.proofs.Common.{subst}
use Rattle.waiting_table.specs.Table.{TableView, AreRising}
use Rattle.waiting_table.proofs.Ordered.{rising_rows}
use Rattle.waiting_table.proofs.order.TicketOrder.len.Goals as goal

pub returns-clause-rising : goal.returns-clause-rising
returns-clause-rising c = subst (λ (v : TableView). AreRising v.rows) c.self.view_is (rising_rows c.self.inside.entries.items c.self.invariant.rising)
