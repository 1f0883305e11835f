use Rattle.std.proofs.Common.{◌≡◌, subst, ap, ◌∙◌, []}
use Rattle.sched_journal.specs.Journal.{JournalView}
use Rattle.sched_state.specs.Tracker.{Tracks}
use Rattle.sched_state.proofs.scheduler.Scheduler.over.Goals as goal

pub invariant_of-result : goal.invariant_of-result
invariant_of-result g c =
    let given : c.config.result.now ≡ c.args.config = c.config.ensures.config ∙ ap (λ (j : JournalView). j.config) c.open-journal.ensures in
    rw c.open-journal.ensures (record {
      tracks = subst (λ C. Tracks g.J.Job.label_of g.X.Chooser.seen C [] c.in_ok-tracker.tracker) given c.in_ok-tracker.ensures.tracked;
      stored = record { past_is = c.requires.empty; room = c.requires.room };
    })
