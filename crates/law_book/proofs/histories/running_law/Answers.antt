use Rattle.fq_laws.proofs.History.Workers.{running_runs, runs_running, running_nothing, nothing_running}
use Rattle.law_book.proofs.histories.running_law.Goals as goal

pub returns : goal.returns
returns c = λ C P i l. (λ r. (running_runs C P i r l, runs_running C P i r l), (running_nothing C P i l, nothing_running C P i l))
