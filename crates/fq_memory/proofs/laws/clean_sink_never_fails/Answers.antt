use Rattle.fq_memory.proofs.Clean.{never_full}
use Rattle.fq_memory.proofs.laws.clean_sink_never_fails.Goals as goal

pub returns : goal.returns
returns c = never_full
