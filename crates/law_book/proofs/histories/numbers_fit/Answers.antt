use Rattle.fq_laws.proofs.History.Numbers.{submitted_small}
use Rattle.law_book.proofs.histories.numbers_fit.Goals as goal

pub returns : goal.returns
returns c = submitted_small
