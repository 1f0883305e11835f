use Rattle.std.proofs.Common.{◌<◌, length, arith, sym, subst}
use Rattle.waiting_room.specs.Room.{RoomView, with_waiting}
use Rattle.waiting_room.specs.Kept.{IsWithin}
use Rattle.waiting_room.proofs.Steps.{keeps_with, taken_fits}
use Rattle.waiting_room.proofs.room.Room.set_waiting.Goals as goal

pub overflow_add-self-2 : goal.overflow_add-self-2
overflow_add-self-2 c =
    let t = c.self.inside in
    let r : RoomView = record { places = t.places; per_tenant = t.per_tenant; waiting = t.waiting.items } in
    let within = subst (λ (v : RoomView). IsWithin (with_waiting v c.args.slot c.args.count)) (sym c.self.view_is) c.requires.within in
    let known = subst (λ (v : RoomView). c.args.slot < length v.waiting) (sym c.self.view_is) c.requires.known in
    let fits = taken_fits r c.args.slot c.args.count c.index-before.result.now c.saturating_sub.result c.saturating_sub-2.result t.own t.shared t.all t.shared_taken known c.self.invariant c.index-before.ensures c.saturating_sub.ensures c.saturating_sub-2.ensures within (omega (arith, c.self.ranges)) in
    omega (arith, fits)

pub invariant_of-self : goal.invariant_of-self
invariant_of-self c =
    let t = c.self.inside in
    let r : RoomView = record { places = t.places; per_tenant = t.per_tenant; waiting = t.waiting.items } in
    let within = subst (λ (v : RoomView). IsWithin (with_waiting v c.args.slot c.args.count)) (sym c.self.view_is) c.requires.within in
    let known = subst (λ (v : RoomView). c.args.slot < length v.waiting) (sym c.self.view_is) c.requires.known in
    keeps_with r c.args.slot c.args.count c.index-before.result.now c.saturating_sub.result c.saturating_sub-2.result t.own t.shared t.all t.shared_taken known c.self.invariant c.index-before.ensures c.saturating_sub.ensures c.saturating_sub-2.ensures within
