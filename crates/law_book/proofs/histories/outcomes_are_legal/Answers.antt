use Rattle.fq_laws.proofs.Outcome.{outcome_legal}
use Rattle.law_book.proofs.histories.outcomes_are_legal.Goals as goal

pub returns : goal.returns
returns c = outcome_legal
