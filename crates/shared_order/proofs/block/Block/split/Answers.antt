use Rattle.std.proofs.Common.{rules, arith, ◌≡◌, ◌-◌, [], length, drop, ◌∙◌, ap, length-drop, length-take}
use Rattle.std.specs.Result.{IsOk}
use Rattle.shared_order.proofs.InBlock.{halved, rest_from}
use Rattle.shared_order.proofs.block.Block.split.Goals as goal

pub invariant_of-next : goal.invariant_of-next
invariant_of-next c =
    let none : c.next.inside.heads.items ≡ [] = c.next.view_is ∙ c.requires.empty in
    let rest = rest_from c.self.inside.heads.items c.deref.result.now 16 c.deref.ensures.value in
    let ok : IsOk c.extend_from_slice.result = c.extend_from_slice.ensures.succeeds (omega (arith, c.next.invariant.room, ap length none, length-drop 16 c.deref.result.now, length-take (length c.deref.result.now - 16) (drop 16 c.deref.result.now))) in
    let items : c.extend_from_slice.new.self.items ≡ drop 16 c.self.inside.heads.items = search (rules, rest) in
    halved c.self.inside.heads.items _ _ _ _ _ items c.self.invariant (omega (arith, c.next.invariant.room, c.extend_from_slice.ensures.capacity)) (search rules)

pub returns-clause-second : goal.returns-clause-second
returns-clause-second c =
    let none : c.next.inside.heads.items ≡ [] = c.next.view_is ∙ c.requires.empty in
    let rest = rest_from c.self.inside.heads.items c.deref.result.now 16 c.deref.ensures.value in
    let ok : IsOk c.extend_from_slice.result = c.extend_from_slice.ensures.succeeds (omega (arith, c.next.invariant.room, ap length none, length-drop 16 c.deref.result.now, length-take (length c.deref.result.now - 16) (drop 16 c.deref.result.now))) in
    let items : c.extend_from_slice.new.self.items ≡ drop 16 c.self.inside.heads.items = search (rules, rest) in
    items ∙ ap (drop 16) c.self.view_is
