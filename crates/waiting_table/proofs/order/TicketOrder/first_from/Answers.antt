use Rattle.std.proofs.Common.{◌-◌, List, length, take, drop, arith, sym, ap, ◌∙◌, subst}
use Rattle.std.specs.List.{slice_get}
use Rattle.std.proofs.lemmas.List.{take_all, length-drop}
use Rattle.waiting_table.specs.declared.order.Entry.{Entry}
use Rattle.waiting_table.specs.Table.{TableView, first_from}
use Rattle.waiting_table.specs.Order.{rows_of, IsPlaceOf}
use Rattle.waiting_table.proofs.Ordered.{first_behind}
use Rattle.waiting_table.proofs.order.TicketOrder.first_from.Goals as goal

pub returns : goal.returns
returns c =
    let es = c.self.inside.entries.items in
    let from = c.place_of-from.result in
    let at = subst (λ (l : List Entry). IsPlaceOf l c.args.ticket from) c.deref.ensures.value c.place_of-from.ensures in
    c.first_of.ensures
    ∙ ap (λ (l : List Entry). slice_get (rows_of (take (length l - from) (drop from l))) 0) c.deref-2.ensures.value
    ∙ ap (λ (l : List Entry). slice_get (rows_of l) 0) (take_all (length es - from) (drop from es) (omega (arith, length-drop from es)))
    ∙ sym (first_behind es c.args.ticket from at)
    ∙ ap (λ (v : TableView). first_from v c.args.ticket) c.self.view_is
