use Rattle.program_model.specs.Commands.{Untold}
use Rattle.law_book.proofs.CleanRuns.{no_reading}
use Rattle.law_book.proofs.programs.never_fails_reading.Goals as goal

pub returns-clause-plain : goal.returns-clause-plain
returns-clause-plain g c = no_reading Untold

pub returns-clause-live : goal.returns-clause-live
returns-clause-live g c = no_reading _
