use Rattle.fq_laws.proofs.Keys.Served.{time_not_ahead}
use Rattle.law_book.proofs.accounts.time_is_not_ahead.Goals as goal

pub returns : goal.returns
returns c = time_not_ahead
