use Rattle.fq_model.specs.History.{history_of}
use Rattle.tag_gap.proofs.AskedLemmas.{asked_in_order}
use Rattle.tag_gap.proofs.GapLemmas.{costs_are}
use Rattle.tag_gap.proofs.gaps.tag_gap.Goals as goal

pub not_declared-requires-clause-asked : goal.not_declared-requires-clause-asked
not_declared-requires-clause-asked c = rw (c.as_slice.ensures.value, c.in_ok-asked.ensures) (asked_in_order c.args.config.now c.args.past.now c.requires.legal)

pub gap_of-requires-clause-costs : goal.gap_of-requires-clause-costs
gap_of-requires-clause-costs c = costs_are c.args.config.now (history_of c.args.past.now) c.not_declared.result c.tenant_fault.ensures.limits c.requires.legal c.not_declared.ensures c.in_default-not_declared.not-Some

pub gap_of-requires-clause-asked : goal.gap_of-requires-clause-asked
gap_of-requires-clause-asked c = rw (c.as_slice-2.ensures.value, c.in_ok-asked.ensures) (asked_in_order c.args.config.now c.args.past.now c.requires.legal)
