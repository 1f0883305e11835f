use Rattle.std.proofs.Common.{◌≡◌, List, Option, is_some, arith, sym, ap, ◌∙◌, subst}
use Rattle.waiting_table.specs.declared.order.Entry.{Entry}
use Rattle.waiting_table.specs.declared.row.Waiting.{Waiting}
use Rattle.waiting_table.specs.Table.{TableView, row_of, forwarded}
use Rattle.waiting_table.specs.Order.{rows_of, HasNone, IsEntryOf}
use Rattle.waiting_table.proofs.Ordered.{entry_within, read_row, rows_forwarded, keeps_forwarded}
use Rattle.waiting_table.proofs.Missing.{forwarded_none}
use Rattle.waiting_table.proofs.order.TicketOrder.forward.Goals as goal

pub returns-in_default-clause-found : goal.returns-in_default-clause-found
returns-in_default-clause-found c =
    let none = subst (λ (l : List Entry). HasNone l c.args.ticket) c.deref.ensures.value c.in_default.ensures in
    sym (ap (λ (v : TableView). is_some (row_of v c.args.ticket)) (sym c.self.view_is) ∙ ap (λ (o : Option Waiting). is_some o) none)

pub returns-in_default-clause-forwarded : goal.returns-in_default-clause-forwarded
returns-in_default-clause-forwarded c =
    let none = subst (λ (l : List Entry). HasNone l c.args.ticket) c.deref.ensures.value c.in_default.ensures in
    subst (λ (v : TableView). v ≡ forwarded v c.args.ticket c.args.request) c.self.view_is
    (sym (ap (λ (l : List Waiting). let v : TableView = record { rows = l; room = c.self.inside.room } in v) (forwarded_none c.args.ticket c.args.request (rows_of c.self.inside.entries.items) none)))

pub index_mut-requires : goal.index_mut-requires
index_mut-requires c =
    let es = c.self.inside.entries.items in
    let found = subst (λ (l : List Entry). IsEntryOf l c.args.ticket c.in-Some.at) c.deref.ensures.value c.in-Some.ensures in
    omega (arith, entry_within es c.args.ticket c.self.invariant.rising c.in-Some.at found, c.self.inside.entries.ok.0)

pub invariant_of-self : goal.invariant_of-self
invariant_of-self c =
    let es = c.self.inside.entries.items in
    let found = subst (λ (l : List Entry). IsEntryOf l c.args.ticket c.in-Some.at) c.deref.ensures.value c.in-Some.ensures in
    keeps_forwarded es c.args.ticket c.self.invariant.rising c.in-Some.at found c.index_mut.result.now c.index_mut.ensures.value c.self.inside.waiting c.self.inside.room _ c.self.invariant c.args.request

pub returns-clause-found : goal.returns-clause-found
returns-clause-found c =
    let es = c.self.inside.entries.items in
    let found = subst (λ (l : List Entry). IsEntryOf l c.args.ticket c.in-Some.at) c.deref.ensures.value c.in-Some.ensures in
    sym (ap (λ (v : TableView). is_some (row_of v c.args.ticket)) (sym c.self.view_is) ∙ ap (λ (o : Option Waiting). is_some o) (read_row es c.args.ticket c.self.invariant.rising c.in-Some.at found c.index_mut.result.now c.index_mut.ensures.value))

pub returns-clause-forwarded : goal.returns-clause-forwarded
returns-clause-forwarded c =
    let es = c.self.inside.entries.items in
    let found = subst (λ (l : List Entry). IsEntryOf l c.args.ticket c.in-Some.at) c.deref.ensures.value c.in-Some.ensures in
    let viewed : List Waiting → TableView = λ l. record { rows = l; room = c.self.inside.room } in
    ap viewed (rows_forwarded es c.args.ticket c.self.invariant.rising c.in-Some.at found c.index_mut.result.now c.index_mut.ensures.value c.args.request)
    ∙ ap (λ (v : TableView). forwarded v c.args.ticket c.args.request) c.self.view_is
