use Rattle.fq_laws.proofs.Charge.Estimates.{estimate_range}
use Rattle.law_book.proofs.accounts.estimate_range.Goals as goal

pub returns : goal.returns
returns c = estimate_range
