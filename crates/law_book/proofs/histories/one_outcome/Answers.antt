use Rattle.fq_laws.proofs.Outcome.{outcome_one}
use Rattle.law_book.proofs.histories.one_outcome.Goals as goal

pub returns : goal.returns
returns c = outcome_one
