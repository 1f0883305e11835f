use Rattle.std.proofs.Common.{◌≡◌, ℕ, ◌-◌, ◌<◌, [], length, vec_capacity}
use Rattle.waiting_table.specs.Kept.{ArePlaces}
use Rattle.waiting_table.proofs.Places.{spare}
use Rattle.waiting_table.proofs.table.all_places.Given as goal

abbrev pub invariant-places : goal.invariant-places
invariant-places l = record {
  places : ArePlaces [] l.free.items l.room;
  lower : (place : ℕ) → place < l.room - l.given → spare place l.free.items ≡ 0;
  size : length l.free.items ≡ l.given;
  reserved : vec_capacity l.free ≡ l.room;
}
