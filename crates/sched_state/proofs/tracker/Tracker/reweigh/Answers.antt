use Rattle.std.proofs.Common.{ℕ, refl}
use Rattle.fq_model.specs.declared.event.Act.TheVariants.{Weight}
use Rattle.fq_laws.specs.Words.{one_more}
use Rattle.sched_journal.specs.Journal.{history}
use Rattle.sched_state.specs.Tracker.{TracksBut}
use Rattle.sched_state.proofs.TrackerLemmas.{reweigh_but, some_but, renewed}
use Rattle.sched_state.proofs.tracker.Tracker.reweigh.Given as given
use Rattle.sched_state.proofs.tracker.Tracker.reweigh.Goals as goal
use Rattle.sched_state.proofs.tracker.Tracker.reweigh.Goals.{After-reweigh}

pub reweigh-requires : goal.reweigh-requires
reweigh-requires g c =
    let m = c.requires.tracked.mirrors in
    record { config = c.args.journal.now.config; history = history c.args.journal.now; entry = record { who = 0; moment = c.args.moment; act = Weight c.args.tenant c.args.weight }; limits = m.limits; legal = c.requires.legal 0; comes = record { moment_is = refl; act_is = refl }; kept_is = m.times_are }

-- the tracker is that of the longer history, but for the keys of the tenant
but : (g : given.Over) (c : After-reweigh g) (who : ℕ) → TracksBut g.J.Job.label_of g.X.Chooser.seen c.args.tenant c.args.journal.now.config (one_more who c.args.moment (Weight c.args.tenant c.args.weight) (history c.args.journal.now)) (record { lists = c.args.self.now.lists; book = c.args.self.now.book; accounts = c.args.self.now.accounts; costs = c.args.self.now.costs; times = c.reweigh.new.self; chooser = c.args.self.now.chooser })
but g c who =
    let m = c.requires.tracked.mirrors in
    reweigh_but g.J.Job.label_of g.X.Chooser.seen c.args.journal.now.config (history c.args.journal.now) c.args.self.now _ who c.args.moment c.args.tenant c.args.weight c.requires.tracked (c.requires.legal who) (c.reweigh.ensures c.args.journal.now.config (history c.args.journal.now) _ m.limits (c.requires.legal who) (record { moment_is = refl; act_is = refl }) m.times_are) refl refl refl refl refl

pub renew-requires : goal.renew-requires
renew-requires g c = some_but g.J.Job.label_of g.X.Chooser.seen c.config.ensures.config (but g (goal.at.renew-requires g c).After-reweigh 0)

pub returns-clause-tracked : goal.returns-clause-tracked
returns-clause-tracked g c = λ who. renewed g.J.Job.label_of g.X.Chooser.seen c.config.ensures.config (but g (goal.at.returns-clause-tracked g c).After-reweigh who) c.renew.ensures.tracked
