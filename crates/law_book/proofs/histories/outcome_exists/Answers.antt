use Rattle.fq_laws.proofs.Outcome.{outcome_exists}
use Rattle.law_book.proofs.histories.outcome_exists.Goals as goal

pub returns : goal.returns
returns c = outcome_exists
