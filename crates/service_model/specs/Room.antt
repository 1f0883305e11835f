-- The room of a service: who is admitted to it is said by the room's own definitions.
use Rattle.std.specs.Prelude.{ℕ, length}
use Rattle.fq_model.specs.Sums.{list_below}
use Rattle.waiting_room.specs.Room.{RoomView}
use Rattle.service_model.specs.declared.config.ServiceConfig.{ServiceConfig}
use Rattle.service_model.specs.View.{ServiceView, how_many, is_waiting, of_slot}

-- how many requests of a slot wait, held ones among them
abbrev pub waiting_in : ServiceView → ℕ → ℕ
waiting_in v slot = how_many v (of_slot slot is_waiting)

-- its places are as many as requests may wait in a scheduler
abbrev pub room_of : ServiceConfig → ServiceView → RoomView
room_of c v = record {
  places = c.scheduler.requests;
  per_tenant = c.room_per_tenant;
  waiting = list_below (waiting_in v) (length v.slots);
}
