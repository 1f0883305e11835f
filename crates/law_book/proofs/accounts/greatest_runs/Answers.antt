use Rattle.fq_laws.proofs.Charge.Estimates.{greatest_first, greatest_next}
use Rattle.law_book.proofs.accounts.greatest_runs.Goals as goal

pub returns : goal.returns
returns c = λ initial. (greatest_first initial, λ cost costs. greatest_next initial cost costs)
