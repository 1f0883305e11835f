use Rattle.std.proofs.Common.{◌<◌, ◌+◌, ◌≡◌, None, length, sym, subst}
use Rattle.waiting_room.specs.Room.{RoomView, refusal, with_waiting}
use Rattle.waiting_room.specs.Kept.{IsWithin}
use Rattle.waiting_room.proofs.Steps.{within_entered, read}
use Rattle.waiting_room.proofs.room.Room.enter.Goals as goal

pub set_waiting-requires-clause-within : goal.set_waiting-requires-clause-within
set_waiting-requires-clause-within c =
    let t = c.self.inside in
    let r : RoomView = record { places = t.places; per_tenant = t.per_tenant; waiting = t.waiting.items } in
    let known = subst (λ (v : RoomView). c.args.slot < length v.waiting) (sym c.self.view_is) c.requires.known in
    let may = subst (λ (v : RoomView). refusal v c.args.slot ≡ None) (sym c.self.view_is) c.requires.admitted in
    let was = read r c.args.slot c.index-waiting.result.now known c.index-waiting.ensures in
    subst (λ (v : RoomView). IsWithin (with_waiting v c.args.slot (c.index-waiting.result.now + 1))) c.self.view_is
    (subst (λ n. IsWithin (with_waiting r c.args.slot (n + 1))) was (within_entered r c.args.slot known may c.self.invariant.within))
