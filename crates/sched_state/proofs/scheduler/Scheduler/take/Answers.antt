use Rattle.std.proofs.Common.{◌∙◌, sym, ap}
use Rattle.std.specs.FinMap as map
use Rattle.sched_journal.specs.Journal.{history}
use Rattle.sched_state.specs.Scheduler.{SchedulerView}
use Rattle.sched_state.proofs.CallLemmas.{unmoved, moved, entered, none_handed_out, took}
use Rattle.sched_state.proofs.scheduler.Scheduler.take.Goals as goal

pub take-requires : goal.take-requires
take-requires g c = c.self.invariant.tracks

pub returns-in-Some-clause-answers : goal.returns-in-Some-clause-answers
returns-in-Some-clause-answers g c = unmoved c.self.inside.journal _ _ c.args.self.now _ _ c.self.view_is (c.in-Some.ensures.told.answers c.args.who c.args.moment)

pub returns-in-Some-clause-jobs : goal.returns-in-Some-clause-jobs
returns-in-Some-clause-jobs g c = none_handed_out c.args.self.now c.in-Some.told c.in-Some.ensures.told.no_job

pub take-item-requires-clause-tracked : goal.take-item-requires-clause-tracked
take-item-requires-clause-tracked g c = c.self.invariant.tracks

pub take-item-requires-clause-may : goal.take-item-requires-clause-may
take-item-requires-clause-may g c = record {
  later = c.effective-moment.ensures.later;
  in_range = c.effective-moment.ensures.in_range;
  gets = c.in_default.ensures.work;
}

pub enter-requires-clause-legal : goal.enter-requires-clause-legal
enter-requires-clause-legal g c = (c.take-item.ensures.tracks c.args.who).mirrors.legal

pub invariant_of-self : goal.invariant_of-self
invariant_of-self g c = entered g.J.Job.label_of g.X.Chooser.seen c.self.inside.journal c.enter.new.journal _ _ _ c.take-item.new.self c.enter.ensures.journal c.enter.ensures.store c.self.invariant.stored (c.take-item.ensures.tracks c.args.who)

pub returns-clause-answers : goal.returns-clause-answers
returns-clause-answers g c =
    let gets = c.in_default.ensures.work in
    moved c.self.inside.journal c.enter.new.journal _ _ _ _ _ c.args.self.now _ _ c.self.view_is c.enter.ensures.journal c.enter.ensures.store (took c.self.inside.journal.config (history c.self.inside.journal) c.args.who c.args.moment c.effective-moment.result c.args.worker c.take-item.result.0.request c.take-item.result.1 (g.J.Job.label_of c.take-item.result.0.job) c.take-item.ensures.asked gets.free gets.pooled gets.some_waits c.effective-moment.ensures.value c.take-item.ensures.label_is c.take-item.ensures.chosen)

pub returns-clause-jobs : goal.returns-clause-jobs
returns-clause-jobs g c =
    let x = c.take-item.ensures in (
      ap (λ (s : SchedulerView g.row.J.Denot). map.get s.jobs c.take-item.result.0.request) (sym c.self.view_is) ∙ x.job_is,
      x.jobs_are ∙ ap (λ (s : SchedulerView g.row.J.Denot). map.remove s.jobs c.take-item.result.0.request) c.self.view_is,
    )
