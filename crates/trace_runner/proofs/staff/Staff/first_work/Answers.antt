use Rattle.std.proofs.Common.{◌≡◌, ◌∙◌, sym, subst, None, Some, length, ◌<◌}
use Rattle.std.proofs.lemmas.List.{get_or_read}
use Rattle.trace_runner.specs.Staff.{IsFirstWork, NoneWorks, work_at}
use Rattle.trace_runner.proofs.Trees.{first_work_is, none_works, first_work_known}
use Rattle.trace_runner.proofs.staff.Staff.first_work.Goals as goal

pub returns : goal.returns
returns c =
    let known : c.in_ok-worker.worker < length c.self.inside.works.items = first_work_known _ _ _ c.in_ok-worker.worker c.in_ok-worker.field-0-1 c.self.invariant c.in_ok-worker.ensures in
    let at : work_at c.self.inside.works.items c.in_ok-worker.worker ≡ Some c.in_ok-work.work = sym (get_or_read c.self.inside.works.items c.in_ok-worker.worker c.index.result.now known c.index.ensures None) ∙ c.in_ok-work.was in
    subst (λ xs. IsFirstWork xs c.in_ok-worker.worker c.in_ok-work.work) c.self.view_is (first_work_is c.self.inside.works.items c.self.inside.busy c.self.inside.idle c.in_ok-worker.worker c.in_ok-worker.field-0-1 c.in_ok-work.work c.self.invariant c.in_ok-worker.ensures at)

pub returns-in_err-worker : goal.returns-in_err-worker
returns-in_err-worker c = rw c.from_residual.ensures (subst NoneWorks c.self.view_is (none_works c.self.inside.works.items c.self.inside.busy c.self.inside.idle c.self.invariant c.in_err-worker.ensures))
