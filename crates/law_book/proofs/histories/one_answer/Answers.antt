use Rattle.fq_laws.proofs.Rules.Answers.{answer_one}
use Rattle.law_book.proofs.histories.one_answer.Goals as goal

pub returns : goal.returns
returns c = λ C P H K c r s x y. answer_one C P c r s H K x y
