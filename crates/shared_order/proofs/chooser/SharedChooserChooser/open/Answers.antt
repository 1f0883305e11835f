use Rattle.std.proofs.Common.{◌≡◌, ◌≤◌, arith, rules, replicate, None}
use Rattle.shared_order.proofs.Mirroring.{opened_keeps}
use Rattle.shared_order.proofs.chooser.SharedChooserChooser.open.Goals as goal

pub invariant_of-result : goal.invariant_of-result
invariant_of-result c =
    let table : c.in_ok-table.table.items ≡ replicate c.tenants.result None = search rules in
    let room : c.tenants.result ≤ c.in_ok-order.order.room = omega (arith, c.in_ok-order.ensures.room, c.tenants.ensures.value, c.tenants-2.ensures.value) in
    opened_keeps c.tenants.result c.in_ok-table.table.items c.in_ok-order.order table c.in_ok-order.ensures.none room
