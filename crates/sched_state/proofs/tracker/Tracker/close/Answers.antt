use Rattle.std.proofs.Common.{refl}
use Rattle.fq_model.specs.declared.event.Act.TheVariants.{Close}
use Rattle.sched_journal.specs.Journal.{history}
use Rattle.sched_state.proofs.TrackerLemmas.{close_tracks}
use Rattle.sched_state.proofs.tracker.Tracker.close.Goals as goal

pub pass-requires : goal.pass-requires
pass-requires g c =
    let m = c.requires.tracked.mirrors in
    record { config = c.args.journal.now.config; history = history c.args.journal.now; entry = record { who = 0; moment = c.args.moment; act = Close }; limits = m.limits; legal = c.requires.legal 0; comes = record { moment_is = refl; passes = refl }; kept_is = m.times_are }

pub returns-clause-tracked : goal.returns-clause-tracked
returns-clause-tracked g c = λ who.
    let m = c.requires.tracked.mirrors in
    close_tracks g.J.Job.label_of g.X.Chooser.seen c.args.journal.now.config (history c.args.journal.now) c.args.self.now _ who c.args.moment c.requires.tracked (c.requires.legal who) (c.pass.ensures c.args.journal.now.config (history c.args.journal.now) _ m.limits (c.requires.legal who) (record { moment_is = refl; passes = refl }) m.times_are) refl refl refl refl refl
