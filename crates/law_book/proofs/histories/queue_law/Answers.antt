use Rattle.fq_laws.proofs.History.Queues.{queue_law}
use Rattle.law_book.proofs.histories.queue_law.Goals as goal

pub returns : goal.returns
returns c = queue_law
