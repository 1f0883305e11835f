use Rattle.std.proofs.Common.{sym, ap, ◌∙◌}
use Rattle.std.specs.FinMap as map
use Rattle.sched_journal.specs.Journal.{history}
use Rattle.sched_state.specs.Scheduler.{SchedulerView}
use Rattle.sched_state.proofs.CallLemmas.{unmoved, moved, entered, none_handed_back, job_refused, legal_withdraw, answered_withdraw}
use Rattle.sched_state.proofs.scheduler.Scheduler.withdraw.Goals as goal

pub returns-in_err-withdraw-clause-answers : goal.returns-in_err-withdraw-clause-answers
returns-in_err-withdraw-clause-answers g c = unmoved c.self.inside.journal _ _ c.args.self.now _ _ c.self.view_is (job_refused g.J.Job.label_of c.from_residual.result c.in_err-withdraw.field-0.0 _ _ _ c.from_residual.ensures.1 (c.in_err-withdraw.ensures _ _ c.self.invariant.tracks))

pub returns-in_err-withdraw-clause-jobs : goal.returns-in_err-withdraw-clause-jobs
returns-in_err-withdraw-clause-jobs g c = none_handed_back c.args.self.now c.args.request c.from_residual.result _ c.from_residual.ensures.1

pub withdraw-job-requires-clause-tracked : goal.withdraw-job-requires-clause-tracked
withdraw-job-requires-clause-tracked g c = c.self.invariant.tracks

pub withdraw-job-requires-clause-legal : goal.withdraw-job-requires-clause-legal
withdraw-job-requires-clause-legal g c =
    let m = c.effective-moment.ensures in
    λ who. legal_withdraw c.self.inside.journal.config (history c.self.inside.journal) who c.effective-moment.result c.args.request (sym (c.in_ok-withdraw.ensures _ _ c.self.invariant.tracks)) c.self.invariant.tracks.mirrors.legal m.later m.in_range

pub enter-requires-clause-legal : goal.enter-requires-clause-legal
enter-requires-clause-legal g c = (c.withdraw-job.ensures.tracked c.args.who).mirrors.legal

pub invariant_of-self : goal.invariant_of-self
invariant_of-self g c = entered g.J.Job.label_of g.X.Chooser.seen c.self.inside.journal c.enter.new.journal _ _ _ c.withdraw-job.new.self c.enter.ensures.journal c.enter.ensures.store c.self.invariant.stored (c.withdraw-job.ensures.tracked c.args.who)

pub returns-clause-answers : goal.returns-clause-answers
returns-clause-answers g c = moved c.self.inside.journal c.enter.new.journal _ _ _ _ _ c.args.self.now _ _ c.self.view_is c.enter.ensures.journal c.enter.ensures.store (answered_withdraw c.self.inside.journal.config (history c.self.inside.journal) c.args.who c.args.moment c.effective-moment.result c.args.request _ (sym (c.in_ok-withdraw.ensures _ _ c.self.invariant.tracks)) c.effective-moment.ensures.value c.withdraw-job.ensures.label)

pub returns-clause-jobs : goal.returns-clause-jobs
returns-clause-jobs g c = (
  ap (λ (s : SchedulerView g.row.J.Denot). map.get s.jobs c.args.request) (sym c.self.view_is) ∙ c.withdraw-job.ensures.job,
  c.withdraw-job.ensures.jobs ∙ ap (λ (s : SchedulerView g.row.J.Denot). map.remove s.jobs c.args.request) c.self.view_is,
)
