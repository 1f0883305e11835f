use Rattle.service_laws.proofs.RoomLaws.{room_is_kept}
use Rattle.service_laws.proofs.laws.room_is_kept.Goals as goal

pub returns : goal.returns
returns c = room_is_kept
