use Rattle.program_model.specs.Commands.{Untold}
use Rattle.law_book.proofs.CleanRuns.{no_writing}
use Rattle.law_book.proofs.programs.never_fails_writing.Goals as goal

pub returns-clause-plain : goal.returns-clause-plain
returns-clause-plain g c = no_writing Untold

pub returns-clause-live : goal.returns-clause-live
returns-clause-live g c = no_writing _
