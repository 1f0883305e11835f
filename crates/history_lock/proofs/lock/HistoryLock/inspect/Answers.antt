use Rattle.std.proofs.Common.{ap, refl, inl}
use Rattle.history_lock.proofs.lock.HistoryLock.inspect.Goals as goal

pub leave-requires-clause-served : goal.leave-requires-clause-served
leave-requires-clause-served g c =
    let served = c.enter-machine.ensures.served in
    let now = served.1 in (served.0, g.M.Machine.past c.enter-machine.result, ap (λ m. m.0.stage) now, ap (λ m. m.1) now, inl refl)
