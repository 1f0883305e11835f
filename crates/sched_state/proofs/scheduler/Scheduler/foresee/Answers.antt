use Rattle.std.proofs.Common.{subst}
use Rattle.fq_model.specs.Foresee.{IsForeseen}
use Rattle.fq_model.specs.History.{history_of}
use Rattle.sched_journal.specs.Journal.{history}
use Rattle.sched_state.specs.Replies.{foreseen_by}
use Rattle.sched_state.specs.Scheduler.{SchedulerView}
use Rattle.sched_state.proofs.ForeseeLemmas.{foreseen_told}
use Rattle.sched_state.proofs.scheduler.Scheduler.foresee.Goals as goal

pub take-requires : goal.take-requires
take-requires g c = c.self.invariant.tracks

pub returns-in-Some : goal.returns-in-Some
returns-in-Some g c =
    let told : IsForeseen c.self.inside.journal.config (history c.self.inside.journal) c.args.moment c.args.worker c.args.below (foreseen_by c.in-Some.told) = foreseen_told g.J.Job.label_of c.self.inside.journal.config (history c.self.inside.journal) c.args.moment c.args.worker c.args.below c.in-Some.told c.in-Some.ensures.told in
    subst (λ (s : SchedulerView g.row.J.Denot). IsForeseen s.config (history_of s.past) c.args.moment c.args.worker c.args.below c.foreseen_of.result) c.self.view_is (rw c.foreseen_of.ensures told)
