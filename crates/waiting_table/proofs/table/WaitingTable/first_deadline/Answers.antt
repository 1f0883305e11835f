use lib.IntN.{nat_abs}
use mir.Val.{to_z, of_z}
use mir.Syntax.{w128}
use Rattle.std.proofs.Common.{◌≡◌, pos, arith, sym, ap, subst}
use Rattle.std.proofs.lemmas.Int.{ints}
use Rattle.winner_tree.specs.declared.key.Key.{Key}
use Rattle.waiting_table.specs.Table.{TableView}
use Rattle.waiting_table.specs.Due.{IsFirstDue}
use Rattle.waiting_table.proofs.First.{first_at}
use Rattle.waiting_table.proofs.table.WaitingTable.first_deadline.Goals as goal

pub overflow_cast-result : goal.overflow_cast-result
overflow_cast-result c =
    let k = c.self.invariant in
    let f = first_at c.self.inside.order c.self.inside.deadlines k.due k.in_range c.in_ok-key.field-0-0 c.in_ok-key.key c.in_ok-key.ensures in
    let a = ap (λ (x : Key). x.a) f.key_is in
    let l = f.deadline_fits in
    (omega (arith, ints, a, l), omega (arith, ints, a, l))

pub overflow_cast-result-2 : goal.overflow_cast-result-2
overflow_cast-result-2 c =
    let k = c.self.invariant in
    let f = first_at c.self.inside.order c.self.inside.deadlines k.due k.in_range c.in_ok-key.field-0-0 c.in_ok-key.key c.in_ok-key.ensures in
    let b = ap (λ (x : Key). x.b) f.key_is in
    let l = f.ticket_fits in
    (omega (arith, ints, b, l), omega (arith, ints, b, l))

pub returns : goal.returns
returns c =
    let k = c.self.invariant in
    let f = first_at c.self.inside.order c.self.inside.deadlines k.due k.in_range c.in_ok-key.field-0-0 c.in_ok-key.key c.in_ok-key.ensures in
    let a = ap (λ (x : Key). x.a) f.key_is in
    let b = ap (λ (x : Key). x.b) f.key_is in
    let l = f.deadline_fits in
    let m = f.ticket_fits in
    let deadline : to_z w128 (of_z w128 c.in_ok-key.key.a) ≡ pos f.due.deadline = omega (arith, ints, a, l) in
    let ticket : to_z w128 (of_z w128 c.in_ok-key.key.b) ≡ pos f.due.ticket = omega (arith, ints, b, m) in
    subst (λ (v : TableView). IsFirstDue v (record { deadline = nat_abs (to_z w128 (of_z w128 c.in_ok-key.key.a)); ticket = nat_abs (to_z w128 (of_z w128 c.in_ok-key.key.b)) })) c.self.view_is
    (subst (λ n. IsFirstDue c.self.inside.order (record { deadline = n; ticket = nat_abs (to_z w128 (of_z w128 c.in_ok-key.key.b)) })) (ap nat_abs (sym deadline))
    (subst (λ n. IsFirstDue c.self.inside.order (record { deadline = f.due.deadline; ticket = n })) (ap nat_abs (sym ticket)) f.first))
