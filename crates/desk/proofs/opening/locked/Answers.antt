use Rattle.std.proofs.Common.{ap}
use Rattle.desk.specs.Floors.{FloorView}
use Rattle.desk.proofs.opening.locked.Goals as goal

pub open-requires-2 : goal.open-requires-2
open-requires-2 g c = ap (λ (f : FloorView _). f.scheduler.past) c.in-Ok.ensures
