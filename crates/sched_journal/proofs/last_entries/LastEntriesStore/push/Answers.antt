use Rattle.sched_journal.proofs.StoreLemmas.{holds_one_more}
use Rattle.sched_journal.proofs.last_entries.LastEntriesStore.push.Goals as goal

pub invariant_of-self : goal.invariant_of-self
invariant_of-self c = holds_one_more c.self.inside.keep c.self.inside.past.items _ c.args.entry _ _ c.self.invariant c.and-self-inside.ensures c.push_back.ensures.items
