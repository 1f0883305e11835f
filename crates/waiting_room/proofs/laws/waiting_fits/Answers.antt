use Rattle.waiting_room.proofs.Always.{waiting_fits}
use Rattle.waiting_room.proofs.laws.waiting_fits.Goals as goal

pub returns : goal.returns
returns c = waiting_fits
