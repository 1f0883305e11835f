use Rattle.gap_laws.proofs.Runs.{run_begins}
use Rattle.gap_laws.proofs.laws.run_start_is.Goals as goal

pub returns : goal.returns
returns c = run_begins
