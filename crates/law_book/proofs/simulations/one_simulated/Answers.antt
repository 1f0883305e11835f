use Rattle.trace_runner.proofs.Only.{one_simulated}
use Rattle.law_book.proofs.simulations.one_simulated.Goals as goal

pub returns : goal.returns
returns c = λ T O H K l s t. one_simulated T O H K l.few s t
