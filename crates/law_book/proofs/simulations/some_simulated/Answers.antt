use Rattle.law_book.proofs.Exists.{simulation_exists}
use Rattle.law_book.proofs.simulations.some_simulated.Goals as goal

pub returns : goal.returns
returns c = simulation_exists
