use Rattle.fq_laws.proofs.Keys.Tags.{start_low}
use Rattle.law_book.proofs.accounts.start_limit.Goals as goal

pub returns : goal.returns
returns c = start_low
