use Rattle.std.proofs.Common.{ap, sym, ◌∙◌}
use Rattle.sched_journal.specs.Journal.{history}
use Rattle.sched_state.proofs.CallLemmas.{unmoved, moved, entered, told_refused, legal_report, answered_report}
use Rattle.waiting_lists.specs.Lists.{ListsView}
use Rattle.sched_state.specs.Lists.{jobs_in}
use Rattle.sched_state.specs.Scheduler.{SchedulerView}
use Rattle.sched_state.proofs.scheduler.Scheduler.report.Goals as goal

pub report-requires : goal.report-requires
report-requires g c = c.self.invariant.tracks

pub returns-in_err-row-clause-answers : goal.returns-in_err-row-clause-answers
returns-in_err-row-clause-answers g c = unmoved c.self.inside.journal _ _ c.args.self.now _ _ c.self.view_is (told_refused c.from_residual.result c.in_err-row.field-0.0 _ _ _ c.from_residual.ensures.1 c.in_err-row.ensures.cause)

pub report-requires-2-clause-tracked : goal.report-requires-2-clause-tracked
report-requires-2-clause-tracked g c = c.self.invariant.tracks

pub report-requires-2-clause-row : goal.report-requires-2-clause-row
report-requires-2-clause-row g c = c.in_ok-row.ensures.row

pub report-requires-2-clause-legal : goal.report-requires-2-clause-legal
report-requires-2-clause-legal g c = λ who. legal_report g.J.Job.label_of g.X.Chooser.seen c.self.inside.journal.config (history c.self.inside.journal) c.self.inside.tracker c.args.worker c.args.used c.in_ok-row.row c.self.invariant.tracks c.in_ok-row.ensures.row.row_is (sym c.in_ok-row.ensures.cause) who c.effective-moment.result c.effective-moment.ensures.later c.effective-moment.ensures.in_range

pub enter-requires-clause-legal : goal.enter-requires-clause-legal
enter-requires-clause-legal g c = (c.report-2.ensures.tracked c.args.who).mirrors.legal

pub invariant_of-self : goal.invariant_of-self
invariant_of-self g c = entered g.J.Job.label_of g.X.Chooser.seen c.self.inside.journal c.enter.new.journal _ _ _ c.report-2.new.self c.enter.ensures.journal c.enter.ensures.store c.self.invariant.stored (c.report-2.ensures.tracked c.args.who)

pub returns-clause-answers : goal.returns-clause-answers
returns-clause-answers g c = moved c.self.inside.journal c.enter.new.journal _ _ _ _ _ c.args.self.now _ _ c.self.view_is c.enter.ensures.journal c.enter.ensures.store (answered_report g.J.Job.label_of g.X.Chooser.seen c.self.inside.journal.config (history c.self.inside.journal) c.self.inside.tracker c.args.worker c.args.used c.in_ok-row.row c.self.invariant.tracks c.in_ok-row.ensures.row.row_is (sym c.in_ok-row.ensures.cause) c.args.who c.args.moment c.effective-moment.result c.effective-moment.ensures.value)

pub returns-clause-jobs : goal.returns-clause-jobs
returns-clause-jobs g c = ap (λ (w : ListsView g.row.J.Denot). jobs_in w.lists) c.report-2.ensures.lists ∙ ap (λ (s : SchedulerView g.row.J.Denot). s.jobs) c.self.view_is
