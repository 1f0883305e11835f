-- Laws of a room, over all that may come to it.
use Rattle.std.specs.Prelude.{ℕ, ◌≡◌, ◌<◌, ◌≤◌, ◌+◌, List, None, length}
use Rattle.waiting_room.specs.Room.{RoomView, waiting_of, all_waiting, own_places, shared_of, shared_free, refusal, entered}
use Rattle.waiting_room.specs.Runs.{Step, opened, after, IsRun}

-- this holds of a room after each run
abbrev pub AfterEachRun : (RoomView → Type 0) → Type 0
AfterEachRun P = (places slots per_tenant : ℕ) (steps : List Step)
    → IsRun (opened places slots per_tenant) steps → P (after (opened places slots per_tenant) steps)

-- no more wait than there are places
abbrev pub WaitingFits : Type 0
WaitingFits = AfterEachRun (λ r. all_waiting r ≤ r.places)

-- where the tenants share, one with fewer waiting than its own places is not refused
abbrev pub OwnPlacesAreKept : Type 0
OwnPlacesAreKept = AfterEachRun (λ r. (slot : ℕ) → slot < length r.waiting
    → r.per_tenant ≡ 0 → waiting_of r slot < own_places r → refusal r slot ≡ None)

-- with a limit for each tenant, one below the limit is refused only if all places are taken
abbrev pub LimitAloneDecides : Type 0
LimitAloneDecides = (r : RoomView) (slot : ℕ) → waiting_of r slot < r.per_tenant → all_waiting r < r.places
    → refusal r slot ≡ None

-- where the tenants share, one that enters beyond its own places has then at most one shared place more than are free:
-- so a flood of one tenant leaves half of the shared places to others, rounded down
abbrev pub FloodsAreHalved : Type 0
FloodsAreHalved = AfterEachRun (λ r. (slot : ℕ) → slot < length r.waiting
    → r.per_tenant ≡ 0 → refusal r slot ≡ None → own_places r ≤ waiting_of r slot
    → shared_of (entered r slot) slot ≤ shared_free (entered r slot) + 1)
