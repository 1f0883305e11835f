use Rattle.std.proofs.Common.{◌∙◌, sym, ap}
use Rattle.waiting_lists.specs.Lists.{ListsView, waiting}
use Rattle.sched_journal.specs.Journal.{history}
use Rattle.sched_state.proofs.RefusalLemmas.{report_refused, report_unless_full, told_cause}
use Rattle.sched_state.proofs.refusals.report.Goals as goal

pub returns-in_err-row-clause-cause : goal.returns-in_err-row-clause-cause
returns-in_err-row-clause-cause g c = told_cause c.from_residual.result c.in_err-row.field-0.0 _ c.from_residual.ensures.1 (report_refused c.args.journal.now.config (history c.args.journal.now) c.args.worker c.args.used c.in_err-row.field-0.0 (sym c.in_err-row.ensures.cause))

pub returns-in_err-room-clause-cause : goal.returns-in_err-room-clause-cause
returns-in_err-room-clause-cause g c = told_cause c.from_residual-in_err-room.result c.in_err-room.field-0.0 _ c.from_residual-in_err-room.ensures.1 (report_unless_full c.args.journal.now.config (history c.args.journal.now) c.args.worker c.args.used (sym c.in_ok-row.ensures.cause) ∙ sym (c.in_err-room.ensures (c.len.ensures.all ∙ (ap (λ (w : ListsView g.row.J.Denot). waiting w) c.lists.ensures ∙ c.requires.mirrors.lists_are.counted))))
