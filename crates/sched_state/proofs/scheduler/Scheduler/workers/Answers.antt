use Rattle.std.proofs.Common.{sym, ap, ◌∙◌}
use Rattle.waiting_lists.specs.Lists.{ListsView}
use Rattle.sched_journal.specs.Journal.{history}
use Rattle.sched_state.specs.Lists.{jobs_in}
use Rattle.sched_state.specs.Scheduler.{SchedulerView}
use Rattle.sched_state.proofs.CallLemmas.{unmoved, moved, entered, told_refused, legal_workers, answered_workers}
use Rattle.sched_state.proofs.scheduler.Scheduler.workers.Goals as goal

pub workers-requires : goal.workers-requires
workers-requires g c = c.self.invariant.tracks

pub returns-in_err-workers-clause-answers : goal.returns-in_err-workers-clause-answers
returns-in_err-workers-clause-answers g c = unmoved c.self.inside.journal _ _ c.args.self.now _ _ c.self.view_is (told_refused c.from_residual.result c.in_err-workers.field-0.0 _ _ _ c.from_residual.ensures.1 c.in_err-workers.ensures)

pub staff-requires-clause-tracked : goal.staff-requires-clause-tracked
staff-requires-clause-tracked g c = c.self.invariant.tracks

pub staff-requires-clause-legal : goal.staff-requires-clause-legal
staff-requires-clause-legal g c =
    let m = c.effective-moment.ensures in
    λ who. legal_workers c.self.inside.journal.config (history c.self.inside.journal) who c.effective-moment.result c.args.count (sym c.in_ok-workers.ensures) c.self.invariant.tracks.mirrors.legal m.later m.in_range

pub enter-requires-clause-legal : goal.enter-requires-clause-legal
enter-requires-clause-legal g c = (c.staff.ensures.tracked c.args.who).mirrors.legal

pub invariant_of-self : goal.invariant_of-self
invariant_of-self g c = entered g.J.Job.label_of g.X.Chooser.seen c.self.inside.journal c.enter.new.journal _ _ _ c.staff.new.self c.enter.ensures.journal c.enter.ensures.store c.self.invariant.stored (c.staff.ensures.tracked c.args.who)

pub returns-clause-answers : goal.returns-clause-answers
returns-clause-answers g c = moved c.self.inside.journal c.enter.new.journal _ _ _ _ _ c.args.self.now _ _ c.self.view_is c.enter.ensures.journal c.enter.ensures.store (answered_workers c.self.inside.journal.config (history c.self.inside.journal) c.args.who c.args.moment c.effective-moment.result c.args.count (sym c.in_ok-workers.ensures) c.effective-moment.ensures.value)

pub returns-clause-jobs : goal.returns-clause-jobs
returns-clause-jobs g c = ap (λ (w : ListsView g.row.J.Denot). jobs_in w.lists) c.staff.ensures.lists ∙ ap (λ (s : SchedulerView g.row.J.Denot). s.jobs) c.self.view_is
