use Rattle.program_model.specs.Commands.{Untold}
use Rattle.law_book.proofs.OneAnswer.{one_status}
use Rattle.law_book.proofs.programs.one_status.Goals as goal

pub returns-clause-untold : goal.returns-clause-untold
returns-clause-untold g c = one_status Untold

pub returns-clause-told : goal.returns-clause-told
returns-clause-told g c = one_status (g.K.Clock.tells c.args._clock.now)
