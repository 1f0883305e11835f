use Rattle.program_model.specs.Commands.{Untold}
use Rattle.law_book.proofs.OneAnswer.{one_answer}
use Rattle.law_book.proofs.programs.one_answer.Goals as goal

pub returns-clause-untold : goal.returns-clause-untold
returns-clause-untold g c = one_answer Untold

pub returns-clause-told : goal.returns-clause-told
returns-clause-told g c = one_answer (g.K.Clock.tells c.args._clock.now)
