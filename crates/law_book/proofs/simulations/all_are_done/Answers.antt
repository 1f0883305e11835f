use Rattle.trace_runner.proofs.Finished.{none_unfinished}
use Rattle.law_book.proofs.simulations.all_are_done.Goals as goal

pub returns : goal.returns
returns c = none_unfinished
