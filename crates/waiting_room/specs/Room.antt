-- A room of places where requests wait, and who is admitted to it.
use Rattle.std.specs.Prelude.{ℕ, ◌+◌, ◌-◌, ◌*◌, ◌/◌, ◌==◌, Bool, true, List, Option, Some, None, length, sum, sum_by, slice_index, slice_set, nat_lt, nat_le, if◌then◌else◌}
use Rattle.waiting_room.specs.declared.refusal.Refusal.{Refusal}
use Rattle.waiting_room.specs.declared.refusal.Refusal.TheVariants.{TooManyWait, TenantFull}

-- The view of a room in contracts: its places, how many requests of one tenant may wait (0 is no such limit), and how
-- many wait in each slot. A tenant has a slot.
pub record RoomView : Type 0 where
  pub places : ℕ
  pub per_tenant : ℕ
  pub waiting : List ℕ

abbrev pub waiting_of : RoomView → ℕ → ℕ
waiting_of r slot = slice_index r.waiting slot

abbrev pub all_waiting : RoomView → ℕ
all_waiting r = sum r.waiting

-- the places of each tenant's own: all of them where there is one slot, else equal parts of half of them, rounded down
abbrev pub own_part : ℕ → ℕ → ℕ
own_part places slots = if slots == 1 then places else places / (2 * slots)

abbrev pub own_places : RoomView → ℕ
own_places r = own_part r.places (length r.waiting)

-- the other places, which the tenants share
abbrev pub shared_places : RoomView → ℕ
shared_places r = r.places - length r.waiting * own_places r

-- the shared places that a tenant has: one for each request that waits beyond its own places
abbrev pub shared_of : RoomView → ℕ → ℕ
shared_of r slot = waiting_of r slot - own_places r

abbrev pub shared_taken : RoomView → ℕ
shared_taken r = sum_by (λ w. w - own_places r) r.waiting

abbrev pub shared_free : RoomView → ℕ
shared_free r = shared_places r - shared_taken r

-- Whether one request more may wait beside n of its tenant, if not all places are taken: on a place of its own, or on a
-- shared one if the tenant has fewer of these than are free. With a limit for each tenant the limit alone decides.
abbrev pub has_place_beside : RoomView → ℕ → Bool
has_place_beside r n =
    if nat_lt 0 r.per_tenant then nat_lt n r.per_tenant
    else if nat_lt n (own_places r) then true
    else nat_lt (n - own_places r) (shared_free r)

abbrev pub has_place : RoomView → ℕ → Bool
has_place r slot = has_place_beside r (waiting_of r slot)

-- why one request more of a tenant is refused, if it is
abbrev pub refusal : RoomView → ℕ → Option Refusal
refusal r slot =
    if nat_le r.places (all_waiting r) then Some TooManyWait else if has_place r slot then None else Some TenantFull

-- this many wait in this slot, and the others as before
abbrev pub with_waiting : RoomView → ℕ → ℕ → RoomView
with_waiting r slot n = record r { waiting = slice_set r.waiting slot n }

abbrev pub entered : RoomView → ℕ → RoomView
entered r slot = with_waiting r slot (waiting_of r slot + 1)

abbrev pub left : RoomView → ℕ → RoomView
left r slot = with_waiting r slot (waiting_of r slot - 1)
