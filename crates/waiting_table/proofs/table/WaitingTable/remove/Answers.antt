use Rattle.std.proofs.Common.{vec_capacity, List, arith, sym, ap, ◌∙◌, subst}
use Rattle.waiting_table.specs.declared.row.Waiting.{Waiting}
use Rattle.waiting_table.specs.Table.{TableView}
use Rattle.waiting_table.specs.Kept.{KeepsTable}
use Rattle.waiting_table.proofs.Missing.{without_none}
use Rattle.waiting_table.proofs.Tables.{found_within, keeps_removed}
use Rattle.waiting_table.proofs.table.WaitingTable.remove.Goals as goal

pub invariant_of-self : goal.invariant_of-self
invariant_of-self c =
    let t = c.self.inside in
    let same = ap (λ (l : List Waiting). let v : TableView = record { rows = l; room = t.order.room } in v) (without_none c.args.ticket t.order.rows (sym c.in_err-row.ensures.found)) in
    subst (λ (v : TableView). KeepsTable v t.free.items (vec_capacity t.free) t.deadlines) (sym (c.remove.ensures.rest ∙ same)) c.self.invariant

pub set-requires : goal.set-requires
set-requires c =
    let t = c.self.inside in
    omega (arith, found_within t.order t.free.items _ t.deadlines c.self.invariant c.args.ticket c.in_ok-row.row (sym c.in_ok-row.ensures.found), c.self.invariant.leaves)

pub invariant_of-self-2 : goal.invariant_of-self-2
invariant_of-self-2 c =
    let t = c.self.inside in
    rw (c.remove.ensures.rest, c.push_reserved.ensures.items, c.push_reserved.ensures.capacity, c.set.ensures)
    (keeps_removed t.order t.free.items _ t.deadlines c.self.invariant c.args.ticket c.in_ok-row.row (sym c.in_ok-row.ensures.found))
