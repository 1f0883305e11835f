use Rattle.fq_laws.proofs.Keys.Served.{rate_of_active}
use Rattle.law_book.proofs.accounts.rate_is_of_active.Goals as goal

pub returns : goal.returns
returns c = rate_of_active
