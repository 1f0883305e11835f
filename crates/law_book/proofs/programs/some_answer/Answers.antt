use Rattle.program_model.specs.Commands.{Untold}
use Rattle.law_book.proofs.SomeAnswer.{some_answer}
use Rattle.law_book.proofs.programs.some_answer.Goals as goal

pub returns-clause-untold : goal.returns-clause-untold
returns-clause-untold g c = some_answer c.least_is_there.ensures Untold

pub returns-clause-told : goal.returns-clause-told
returns-clause-told g c = some_answer c.least_is_there.ensures (g.K.Clock.tells c.args._clock.now)
