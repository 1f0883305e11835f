use Rattle.fq_laws.proofs.Time.Clock.{idle_low}
use Rattle.law_book.proofs.accounts.idle_limit.Goals as goal

pub returns : goal.returns
returns c = idle_low
