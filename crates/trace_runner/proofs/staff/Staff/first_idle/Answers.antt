use Rattle.std.proofs.Common.{subst}
use Rattle.trace_runner.specs.Staff.{IsFirstIdle, NoneIdle}
use Rattle.trace_runner.proofs.Trees.{first_idle_is, none_idle}
use Rattle.trace_runner.proofs.staff.Staff.first_idle.Goals as goal

pub returns : goal.returns
returns c = subst (λ xs. IsFirstIdle xs c.in_ok-worker.worker) c.self.view_is (first_idle_is c.self.inside.works.items c.self.inside.busy c.self.inside.idle c.in_ok-worker.worker c.in_ok-worker.field-0-1 c.self.invariant c.in_ok-worker.ensures)

pub returns-in_err-worker : goal.returns-in_err-worker
returns-in_err-worker c = rw c.from_residual.ensures (subst NoneIdle c.self.view_is (none_idle c.self.inside.works.items c.self.inside.busy c.self.inside.idle c.self.invariant c.in_err-worker.ensures))
