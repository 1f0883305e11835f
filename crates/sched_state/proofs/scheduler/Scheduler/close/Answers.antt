use Rattle.std.proofs.Common.{sym, ap, ◌∙◌}
use Rattle.std.proofs.lemmas.Result.{err_from_is_err_and}
use Rattle.sched_journal.specs.Journal.{history}
use Rattle.waiting_lists.specs.Lists.{ListsView}
use Rattle.sched_state.specs.Lists.{jobs_in}
use Rattle.sched_state.specs.Scheduler.{SchedulerView}
use Rattle.sched_state.proofs.CallLemmas.{unmoved, moved, entered, closed_again, legal_close, answered_close}
use Rattle.sched_state.proofs.scheduler.Scheduler.close.Goals as goal

pub returns-in_err-close-clause-answers : goal.returns-in_err-close-clause-answers
returns-in_err-close-clause-answers g c =
    let told = err_from_is_err_and c.from_residual.result c.from_residual.ensures.1 in
    unmoved c.self.inside.journal _ _ c.args.self.now _ _ c.self.view_is (closed_again c.from_residual.result told.0 _ _ told.1 c.in_err-close.ensures)

pub close-requires-2-clause-tracked : goal.close-requires-2-clause-tracked
close-requires-2-clause-tracked g c = c.self.invariant.tracks

pub close-requires-2-clause-legal : goal.close-requires-2-clause-legal
close-requires-2-clause-legal g c =
    let m = c.effective-moment.ensures in
    λ who. legal_close c.self.inside.journal.config (history c.self.inside.journal) who c.effective-moment.result (sym c.in_ok-close.ensures) c.self.invariant.tracks.mirrors.legal m.later m.in_range

pub enter-requires-clause-legal : goal.enter-requires-clause-legal
enter-requires-clause-legal g c = (c.close-2.ensures.tracked c.args.who).mirrors.legal

pub invariant_of-self : goal.invariant_of-self
invariant_of-self g c = entered g.J.Job.label_of g.X.Chooser.seen c.self.inside.journal c.enter.new.journal _ _ _ c.close-2.new.self c.enter.ensures.journal c.enter.ensures.store c.self.invariant.stored (c.close-2.ensures.tracked c.args.who)

pub returns-clause-answers : goal.returns-clause-answers
returns-clause-answers g c = moved c.self.inside.journal c.enter.new.journal _ _ _ _ _ c.args.self.now _ _ c.self.view_is c.enter.ensures.journal c.enter.ensures.store (answered_close c.self.inside.journal.config (history c.self.inside.journal) c.args.who c.args.moment c.effective-moment.result (sym c.in_ok-close.ensures) c.effective-moment.ensures.value)

pub returns-clause-jobs : goal.returns-clause-jobs
returns-clause-jobs g c = ap (λ (w : ListsView g.row.J.Denot). jobs_in w.lists) c.close-2.ensures.lists ∙ ap (λ (s : SchedulerView g.row.J.Denot). s.jobs) c.self.view_is
