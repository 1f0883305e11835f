use Rattle.waiting_room.proofs.Always.{own_places_are_kept}
use Rattle.waiting_room.proofs.laws.own_places_are_kept.Goals as goal

pub returns : goal.returns
returns c = own_places_are_kept
