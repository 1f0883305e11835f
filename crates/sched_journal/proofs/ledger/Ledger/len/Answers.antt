use Rattle.std.proofs.Common.{◌≤◌, subst}
use Rattle.sched_journal.specs.Journal.{JournalView}
use Rattle.sched_journal.proofs.LedgerLemmas.{within_entries}
use Rattle.sched_journal.proofs.ledger.Ledger.len.Goals as goal

pub returns-clause-within : goal.returns-clause-within
returns-clause-within c = subst (λ (j : JournalView). c.self.inside.count ≤ j.config.entries) c.self.view_is (within_entries c.self.inside.config c.self.inside.past.items _ _ c.self.inside.tally c.self.invariant)
