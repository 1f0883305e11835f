use Rattle.gap_laws.proofs.Takes.{takes_few_in_run}
use Rattle.gap_laws.proofs.laws.takes_are_few_in_run.Goals as goal

pub returns : goal.returns
returns c = takes_few_in_run
