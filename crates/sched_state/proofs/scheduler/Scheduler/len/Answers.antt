use Rattle.std.proofs.Common.{subst}
use Rattle.fq_model.specs.History.{history_of}
use Rattle.sched_state.specs.Lists.{HoldsWaiting}
use Rattle.sched_state.specs.Scheduler.{SchedulerView}
use Rattle.sched_journal.specs.Journal.{history}
use Rattle.sched_state.proofs.ListLemmas.{holds_waiting}
use Rattle.sched_state.proofs.scheduler.Scheduler.len.Goals as goal

pub returns-clause-held : goal.returns-clause-held
returns-clause-held g c = let m = c.self.invariant.tracks.mirrors in subst (λ (s : SchedulerView g.row.J.Denot). HoldsWaiting g.J.Job.label_of (history_of s.past) s.jobs) c.self.view_is (holds_waiting g.J.Job.label_of c.self.inside.journal.config (history c.self.inside.journal) c.self.inside.tracker.lists m.limits m.legal m.lists_are)
