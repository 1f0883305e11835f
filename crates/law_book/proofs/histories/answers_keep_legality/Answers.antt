use Rattle.fq_laws.proofs.Rules.Answers.{answer_legal}
use Rattle.law_book.proofs.histories.answers_keep_legality.Goals as goal

pub returns : goal.returns
returns c = λ C P H c r lim l x. answer_legal C P c r H lim l x
