-- A status whose virtual time was asked for by itself.
use Rattle.std.proofs.Common.{◌≡◌, ℤ, pos}
use Rattle.fq_model.specs.declared.config.Config.{Config}
use Rattle.fq_model.specs.declared.parts.Status.{Status}
use Rattle.fq_model.specs.History.{History}
use Rattle.fq_model.specs.Status.{status_of}
use Rattle.sched_state.specs.Scheduler.{virtual_time_now}

pub same_status : (C : Config) (P : History) (s : Status) (v : ℤ) → s ≡ status_of C P → v ≡ pos (virtual_time_now C P)
    → ◌≡◌ {A = Status} (record { entries = s.entries; moment = s.moment; vtime = v; waiting = s.waiting; running = s.running }) (status_of C P)
unfolding status_of
same_status C P s v is time = λ i. record { entries = (is i).entries; moment = (is i).moment; vtime = time i; waiting = (is i).waiting; running = (is i).running }
