use Rattle.fq_laws.proofs.Rules.Answers.{refused_leaves}
use Rattle.law_book.proofs.histories.refusals_change_nothing.Goals as goal

pub returns : goal.returns
returns c = λ C P H c x h. refused_leaves C P c x H h
