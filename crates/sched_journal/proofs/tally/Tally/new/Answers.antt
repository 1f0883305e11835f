use Rattle.sched_journal.proofs.TallyLemmas.{tally_nil}
use Rattle.sched_journal.proofs.tally.Tally.new.Goals as goal

pub returns : goal.returns
returns c = tally_nil
