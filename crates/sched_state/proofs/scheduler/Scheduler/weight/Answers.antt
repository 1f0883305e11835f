use Rattle.std.proofs.Common.{sym, ap, ◌∙◌}
use Rattle.waiting_lists.specs.Lists.{ListsView}
use Rattle.sched_journal.specs.Journal.{history}
use Rattle.sched_state.specs.Lists.{jobs_in}
use Rattle.sched_state.specs.Scheduler.{SchedulerView}
use Rattle.sched_state.proofs.CallLemmas.{unmoved, moved, entered, told_refused, legal_weight, answered_weight}
use Rattle.sched_state.proofs.scheduler.Scheduler.weight.Goals as goal

pub weight-requires : goal.weight-requires
weight-requires g c = c.self.invariant.tracks

pub returns-in_err-weight-clause-answers : goal.returns-in_err-weight-clause-answers
returns-in_err-weight-clause-answers g c = unmoved c.self.inside.journal _ _ c.args.self.now _ _ c.self.view_is (told_refused c.from_residual.result c.in_err-weight.field-0.0 _ _ _ c.from_residual.ensures.1 c.in_err-weight.ensures)

pub reweigh-requires-clause-tracked : goal.reweigh-requires-clause-tracked
reweigh-requires-clause-tracked g c = c.self.invariant.tracks

pub reweigh-requires-clause-legal : goal.reweigh-requires-clause-legal
reweigh-requires-clause-legal g c =
    let m = c.effective-moment.ensures in
    λ who. legal_weight c.self.inside.journal.config (history c.self.inside.journal) who c.effective-moment.result c.args.tenant c.args.weight (sym c.in_ok-weight.ensures) c.self.invariant.tracks.mirrors.legal m.later m.in_range

pub enter-requires-clause-legal : goal.enter-requires-clause-legal
enter-requires-clause-legal g c = (c.reweigh.ensures.tracked c.args.who).mirrors.legal

pub invariant_of-self : goal.invariant_of-self
invariant_of-self g c = entered g.J.Job.label_of g.X.Chooser.seen c.self.inside.journal c.enter.new.journal _ _ _ c.reweigh.new.self c.enter.ensures.journal c.enter.ensures.store c.self.invariant.stored (c.reweigh.ensures.tracked c.args.who)

pub returns-clause-answers : goal.returns-clause-answers
returns-clause-answers g c = moved c.self.inside.journal c.enter.new.journal _ _ _ _ _ c.args.self.now _ _ c.self.view_is c.enter.ensures.journal c.enter.ensures.store (answered_weight c.self.inside.journal.config (history c.self.inside.journal) c.args.who c.args.moment c.effective-moment.result c.args.tenant c.args.weight (sym c.in_ok-weight.ensures) c.effective-moment.ensures.value)

pub returns-clause-jobs : goal.returns-clause-jobs
returns-clause-jobs g c = ap (λ (w : ListsView g.row.J.Denot). jobs_in w.lists) c.reweigh.ensures.lists ∙ ap (λ (s : SchedulerView g.row.J.Denot). s.jobs) c.self.view_is
