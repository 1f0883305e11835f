use Rattle.service_laws.proofs.RoomLaws.{waiting_fits_room}
use Rattle.service_laws.proofs.laws.waiting_fits_room.Goals as goal

pub returns : goal.returns
returns c = waiting_fits_room
