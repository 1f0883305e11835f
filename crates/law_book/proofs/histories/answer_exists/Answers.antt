use Rattle.fq_laws.proofs.Rules.Answers.{answered}
use Rattle.law_book.proofs.histories.answer_exists.Goals as goal

pub returns : goal.returns
returns c = answered
