use Rattle.program_model.specs.Commands.{Untold}
use Rattle.law_book.proofs.SomeAnswer.{some_status}
use Rattle.law_book.proofs.programs.some_status.Goals as goal

pub returns-clause-untold : goal.returns-clause-untold
returns-clause-untold g c = some_status Untold c.some_answer.ensures.untold

pub returns-clause-told : goal.returns-clause-told
returns-clause-told g c = some_status (g.K.Clock.tells c.args.clock.now) c.some_answer.ensures.told
