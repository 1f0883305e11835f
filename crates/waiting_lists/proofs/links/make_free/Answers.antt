use Rattle.std.proofs.Common.{◌≡◌, None, length, rules, arith}
use Rattle.waiting_lists.proofs.Grows.{one_made}
use Rattle.waiting_lists.proofs.links.make_free.Goals as goal

pub returns-then-count-room-clause-made : goal.returns-then-count-room-clause-made
returns-then-count-room-clause-made g c =
    let none : c.args.free.now ≡ None = search rules in
    let last : c.len-count.result ≡ length c.args.slots.now.items = search rules in
    rw (c.push_reserved.ensures.items, c.empty.ensures) (one_made c.args.slots.now.items c.args.free.now c.args.room c.len-count.result none last (omega arith))
