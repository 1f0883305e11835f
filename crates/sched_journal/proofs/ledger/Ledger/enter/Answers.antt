use Rattle.std.proofs.Common.{arith}
use Rattle.fq_model.specs.History.{history_of}
use Rattle.sched_journal.proofs.TallyLemmas.{can_count}
use Rattle.sched_journal.proofs.JournalLemmas.{legal_as}
use Rattle.sched_journal.proofs.LedgerLemmas.{one_more_fits, ledger_keeps, length_within}
use Rattle.sched_journal.proofs.ledger.Ledger.enter.Goals as goal

pub count-requires : goal.count-requires
count-requires c = let k = c.self.invariant in can_count c.self.inside.config (history_of c.self.inside.past.items) c.args.entry c.self.inside.tally k.limits (legal_as _ _ c.args.entry c.self.view_is c.requires) k.tally_is

pub overflow_add-self : goal.overflow_add-self
overflow_add-self c = omega (arith, one_more_fits c.self.inside.config c.self.inside.past.items c.args.entry _ _ c.self.inside.tally c.self.invariant (legal_as _ _ c.args.entry c.self.view_is c.requires))

pub invariant_of-self : goal.invariant_of-self
invariant_of-self c = ledger_keeps c.self.inside.config c.self.inside.past.items _ c.args.entry _ _ c.self.inside.tally _ c.self.invariant (legal_as _ _ c.args.entry c.self.view_is c.requires) c.and-self-inside.ensures c.count.ensures

pub returns-clause-within : goal.returns-clause-within
returns-clause-within c = length_within c.self.inside.config _ _ _ _ (ledger_keeps c.self.inside.config c.self.inside.past.items _ c.args.entry _ _ c.self.inside.tally _ c.self.invariant (legal_as _ _ c.args.entry c.self.view_is c.requires) c.and-self-inside.ensures c.count.ensures)
