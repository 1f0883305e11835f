use Rattle.std.proofs.Common.{refl}
use Rattle.history_lock.proofs.Opening.{opens}
use Rattle.history_lock.proofs.lock.HistoryLock.open.Goals as goal

pub new-requires : goal.new-requires
new-requires g c = rw (c.in_ok-slots.ensures, c.of-like.ensures) (opens g.M.Machine.past g.M.Machine.frame (g.M.Machine.frame c.args.machine) c.args.machine c.requires refl)
