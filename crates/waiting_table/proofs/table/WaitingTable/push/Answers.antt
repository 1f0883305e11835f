use Rattle.std.proofs.Common.{arith, refl, sym, subst}
use Rattle.waiting_table.specs.Table.{TableView, IsAbove, IsFree, row_at}
use Rattle.waiting_table.specs.Kept.{IsInRange}
use Rattle.waiting_table.proofs.Tables.{is_free, keeps_pushed}
use Rattle.waiting_table.proofs.table.WaitingTable.push.Goals as goal

pub set-requires : goal.set-requires
set-requires c =
    let t = c.self.inside in
    let free = is_free t.order t.free.items _ t.deadlines c.self.invariant c.pop.new.self.items c.in-Some.place c.in-Some.ensures.items in
    omega (arith, free.0, c.self.invariant.leaves)

pub invariant_of-self : goal.invariant_of-self
invariant_of-self c =
    let t = c.self.inside in
    let w = row_at c.in-Some.place c.args.coming in
    let above = subst (λ (v : TableView). IsAbove v c.args.coming.ticket) (sym c.self.view_is) c.requires.above in
    rw (c.push.ensures, c.set.ensures, c.key_of.ensures.key, c.at-row.ensures, c.pop.ensures.capacity)
    (keeps_pushed t.order t.free.items _ t.deadlines c.self.invariant c.pop.new.self.items c.in-Some.place c.in-Some.ensures.items w refl (subst IsInRange c.at-row.ensures c.key_of.ensures.in_range) above)

pub returns-clause-place : goal.returns-clause-place
returns-clause-place c =
    let t = c.self.inside in
    subst (λ (v : TableView). IsFree v c.in-Some.place) c.self.view_is
    (is_free t.order t.free.items _ t.deadlines c.self.invariant c.pop.new.self.items c.in-Some.place c.in-Some.ensures.items)
