-- Runs of a room: what came to it since it was opened.
use Rattle.std.specs.Prelude.{ℕ, ◌≡◌, ◌<◌, List, [], ◌∷◌, None, replicate, length}
use Rattle.waiting_room.specs.Room.{RoomView, waiting_of, refusal, entered, left}

-- a request of this slot is admitted, or one of it waits no more
pub data Step : Type 0 where
  Enters : ℕ → Step
  Leaves : ℕ → Step

abbrev pub opened : ℕ → ℕ → ℕ → RoomView
opened places slots per_tenant = record { places = places; per_tenant = per_tenant; waiting = replicate slots 0 }

abbrev pub after_step : RoomView → Step → RoomView
after_step r (Enters slot) = entered r slot
after_step r (Leaves slot) = left r slot

-- the room after steps, of which the newest is the first
abbrev pub after : RoomView → List Step → RoomView
after r [] = r
after r (step ∷ older) = after_step (after r older) step

-- a request enters where it is not refused, and leaves where one waits
abbrev pub MayStep : RoomView → Step → Type 0
MayStep r (Enters slot) = (slot < length r.waiting) × (refusal r slot ≡ None)
MayStep r (Leaves slot) = (slot < length r.waiting) × (0 < waiting_of r slot)

abbrev pub IsRun : RoomView → List Step → Type 0
IsRun r [] = Unit
IsRun r (step ∷ older) = IsRun r older × MayStep (after r older) step
