use Rattle.std.proofs.Common.{◌≡◌, ◌-◌, List, arith, sym, ap, ◌∙◌, subst}
use Rattle.waiting_table.specs.declared.order.Entry.{Entry}
use Rattle.waiting_table.specs.declared.row.Waiting.{Waiting}
use Rattle.waiting_table.specs.Table.{TableView, row_of, without}
use Rattle.waiting_table.specs.Order.{rows_of, HasNone, IsEntryOf}
use Rattle.waiting_table.proofs.Ordered.{entry_within, read_row, rows_removed, hole_rises, hole_count, squeezed_rows, keeps_squeezed}
use Rattle.waiting_table.proofs.Missing.{without_none}
use Rattle.waiting_table.proofs.order.TicketOrder.remove.Goals as goal

pub returns-in_err-at-clause-rest : goal.returns-in_err-at-clause-rest
returns-in_err-at-clause-rest c =
    let none = subst (λ (l : List Entry). HasNone l c.args.ticket) c.deref.ensures.value c.in_err-at.ensures in
    subst (λ (v : TableView). v ≡ without v c.args.ticket) c.self.view_is
    (sym (ap (λ (l : List Waiting). let v : TableView = record { rows = l; room = c.self.inside.room } in v) (without_none c.args.ticket (rows_of c.self.inside.entries.items) none)))

pub index-requires : goal.index-requires
index-requires c =
    let es = c.self.inside.entries.items in
    let found = subst (λ (l : List Entry). IsEntryOf l c.args.ticket c.in_ok-at.at) c.deref.ensures.value c.in_ok-at.ensures in
    omega (arith, entry_within es c.args.ticket c.self.invariant.rising c.in_ok-at.at found, c.self.inside.entries.ok.0)

pub index_mut-requires : goal.index_mut-requires
index_mut-requires c =
    let es = c.self.inside.entries.items in
    let found = subst (λ (l : List Entry). IsEntryOf l c.args.ticket c.in_ok-at.at) c.deref.ensures.value c.in_ok-at.ensures in
    omega (arith, entry_within es c.args.ticket c.self.invariant.rising c.in_ok-at.at found, c.self.inside.entries.ok.0)

pub invariant_of-self : goal.invariant_of-self
invariant_of-self c =
    let es = c.self.inside.entries.items in
    let k = c.self.invariant in
    let found = subst (λ (l : List Entry). IsEntryOf l c.args.ticket c.in_ok-at.at) c.deref.ensures.value c.in_ok-at.ensures in
    let rises = hole_rises es c.args.ticket k.rising c.in_ok-at.at found c.index_mut.result.now c.index_mut.ensures.value c.self.inside.waiting c.self.inside.room _ k in
    let count = hole_count es c.args.ticket k.rising c.in_ok-at.at found c.index_mut.result.now c.index_mut.ensures.value c.self.inside.waiting c.self.inside.room _ k in
    rw (c.squeeze.ensures.items, c.squeeze.ensures.capacity)
    (keeps_squeezed (c.self.inside.waiting - 1) c.self.inside.room _ _ rises count (omega (arith, k.fits)) k.reserved)

pub returns-clause-found : goal.returns-clause-found
returns-clause-found c =
    let es = c.self.inside.entries.items in
    let found = subst (λ (l : List Entry). IsEntryOf l c.args.ticket c.in_ok-at.at) c.deref.ensures.value c.in_ok-at.ensures in
    sym (ap (λ (v : TableView). row_of v c.args.ticket) (sym c.self.view_is) ∙ read_row es c.args.ticket c.self.invariant.rising c.in_ok-at.at found c.index.result.now c.index.ensures)

pub returns-clause-rest : goal.returns-clause-rest
returns-clause-rest c =
    let es = c.self.inside.entries.items in
    let found = subst (λ (l : List Entry). IsEntryOf l c.args.ticket c.in_ok-at.at) c.deref.ensures.value c.in_ok-at.ensures in
    let viewed : List Waiting → TableView = λ l. record { rows = l; room = c.self.inside.room } in
    ap (λ (l : List Entry). viewed (rows_of l)) c.squeeze.ensures.items
    ∙ ap viewed (squeezed_rows (c.self.inside.waiting - 1) _)
    ∙ ap viewed (rows_removed es c.args.ticket c.self.invariant.rising c.in_ok-at.at found c.index_mut.result.now c.index_mut.ensures.value)
    ∙ ap (λ (v : TableView). without v c.args.ticket) c.self.view_is
