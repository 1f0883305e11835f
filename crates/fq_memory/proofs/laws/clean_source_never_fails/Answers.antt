use Rattle.fq_memory.proofs.Clean.{stays_zero}
use Rattle.fq_memory.proofs.laws.clean_source_never_fails.Goals as goal

pub returns : goal.returns
returns c = stays_zero
