-- The invariant of a room.
use Rattle.std.specs.Prelude.{ℕ, ◌≡◌, ◌≤◌}
use Rattle.waiting_room.specs.Room.{RoomView, own_places, shared_places, all_waiting, shared_taken}

-- no more wait than there are places; where the tenants share, no more shared places are taken than there are
pub record IsWithin (r : RoomView) : Type 0 where
  pub all : all_waiting r ≤ r.places
  pub shared : r.per_tenant ≡ 0 → shared_taken r ≤ shared_places r

-- the numbers that a room keeps are those of its view
pub record Keeps (r : RoomView) (own shared all taken : ℕ) : Type 0 where
  pub own_is : own ≡ own_places r
  pub shared_is : shared ≡ shared_places r
  pub all_is : all ≡ all_waiting r
  pub taken_is : taken ≡ shared_taken r
  pub within : IsWithin r
