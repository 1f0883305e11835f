use Rattle.fq_laws.proofs.History.Workers.{runs_worker_known}
use Rattle.law_book.proofs.histories.runners_known.Goals as goal

pub returns : goal.returns
returns c = runs_worker_known
