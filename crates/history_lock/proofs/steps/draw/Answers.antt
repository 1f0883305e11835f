use Rattle.std.proofs.Common.{rules}
use Rattle.history_lock.proofs.Drawing.{draws}
use Rattle.history_lock.proofs.steps.draw.Goals as goal

pub fetch_add-requires : goal.fetch_add-requires
fetch_add-requires g c = (search rules, search rules, draws g.M.Machine.past g.M.Machine.frame _ _ _ _ c.requires.idle)
