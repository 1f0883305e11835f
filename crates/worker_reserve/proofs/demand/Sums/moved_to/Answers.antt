use Rattle.std.proofs.Common.{arith}
use Rattle.worker_reserve.proofs.Windows.{moved_by_one, moved_on}
use Rattle.worker_reserve.proofs.demand.Sums.moved_to.Goals as goal

pub returns-then-window-self-eq1-clause-keeps : goal.returns-then-window-self-eq1-clause-keeps
returns-then-window-self-eq1-clause-keeps c = λ past k. moved_by_one past c.args.self.now c.args.window c.zeros.result k.windows (omega (arith, c.if-window-self-eq1.true)) c.zeros.ensures

pub returns-else-window-self-eq1-clause-keeps : goal.returns-else-window-self-eq1-clause-keeps
returns-else-window-self-eq1-clause-keeps c = λ past k. moved_on past c.args.self.now c.args.window c.zeros-else-window-self-eq1.result c.zeros-else-window-self-eq1-2.result k.windows (omega (arith, c.requires, c.if-window-self.false, c.if-window-self-eq1.false)) c.zeros-else-window-self-eq1.ensures c.zeros-else-window-self-eq1-2.ensures
