use Rattle.std.proofs.Common.{List, sym, ap, ◌∙◌, subst}
use Rattle.waiting_table.specs.declared.order.Entry.{Entry}
use Rattle.waiting_table.specs.Table.{TableView, row_of}
use Rattle.waiting_table.specs.Order.{IsEntryOf}
use Rattle.waiting_table.proofs.Ordered.{read_row}
use Rattle.waiting_table.proofs.order.TicketOrder.get.Goals as goal

pub returns : goal.returns
returns c =
    let es = c.self.inside.entries.items in
    let found = subst (λ (l : List Entry). IsEntryOf l c.args.ticket c.in_ok-at.at) c.deref.ensures.value c.in_ok-at.ensures in
    sym (ap (λ (v : TableView). row_of v c.args.ticket) (sym c.self.view_is) ∙ read_row es c.args.ticket c.self.invariant.rising c.in_ok-at.at found c.index.result.now c.index.ensures)
