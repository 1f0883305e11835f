use Rattle.fq_laws.proofs.Keys.Lifts.{pace_low}
use Rattle.law_book.proofs.accounts.pace_limit.Goals as goal

pub returns : goal.returns
returns c = pace_low
