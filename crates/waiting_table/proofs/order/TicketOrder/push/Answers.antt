use Rattle.std.proofs.Common.{◌<◌, ◌++◌, [], ◌∷◌, List, length, true, sym, ap, ◌∙◌, subst}
use Rattle.waiting_table.specs.declared.order.Entry.{Entry}
use Rattle.waiting_table.specs.declared.row.Waiting.{Waiting}
use Rattle.waiting_table.specs.Table.{TableView, with_row, IsAbove}
use Rattle.waiting_table.specs.Order.{rows_of, EndsAt}
use Rattle.waiting_table.proofs.Ordered.{rows_pushed, keeps_pushed}
use Rattle.waiting_table.proofs.order.TicketOrder.push.Goals as goal

pub invariant_of-self : goal.invariant_of-self
invariant_of-self c =
    let es = c.self.inside.entries.items in
    let ends = subst (λ (l : List Entry). EndsAt l c.end_of-end.result) c.deref.ensures.value c.end_of-end.ensures in
    let above = subst (λ (v : TableView). IsAbove v c.args.row.ticket) (sym c.self.view_is) c.requires.above in
    let space = subst (λ (v : TableView). length v.rows < v.room) (sym c.self.view_is) c.requires.space in
    rw (c.push_reserved.ensures.capacity, c.truncate.ensures.capacity, c.push_reserved.ensures.items, c.truncate.ensures.items)
    (keeps_pushed es c.end_of-end.result ends c.args.row above c.self.invariant.rising c.self.inside.waiting c.self.inside.room _ c.self.invariant space)

pub returns : goal.returns
returns c =
    let es = c.self.inside.entries.items in
    let ends = subst (λ (l : List Entry). EndsAt l c.end_of-end.result) c.deref.ensures.value c.end_of-end.ensures in
    let viewed : List Waiting → TableView = λ l. record { rows = l; room = c.self.inside.room } in
    ap (λ (l : List Entry). viewed (rows_of l)) (c.push_reserved.ensures.items ∙ ap (λ (l : List Entry). l ++ record { row = c.args.row; waits = true } ∷ []) c.truncate.ensures.items)
    ∙ ap viewed (rows_pushed es c.end_of-end.result ends c.args.row)
    ∙ ap (λ (v : TableView). with_row v c.args.row) c.self.view_is
