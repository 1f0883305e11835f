use Rattle.fq_laws.proofs.Rules.Answers.{answer_extends}
use Rattle.law_book.proofs.histories.answers_add_one.Goals as goal

pub returns : goal.returns
returns c = λ C P H c r x. answer_extends C P c r H x
