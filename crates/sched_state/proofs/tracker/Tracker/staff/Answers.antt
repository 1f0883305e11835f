use Rattle.std.proofs.Common.{◌≤◌, sym, subst, refl}
use Rattle.fq_model.specs.declared.event.Act.TheVariants.{Workers}
use Rattle.tag_rules.specs.Tables.{Setting}
use Rattle.sched_journal.specs.Journal.{history}
use Rattle.sched_state.proofs.TrackerLemmas.{workers_tracks}
use Rattle.sched_state.proofs.tracker.Tracker.staff.Goals as goal

pub staff-requires : goal.staff-requires
staff-requires g c =
    let m = c.requires.tracked.mirrors in
    record { config = c.args.journal.now.config; history = history c.args.journal.now; entry = record { who = 0; moment = c.args.moment; act = Workers c.args.count }; limits = m.limits; legal = c.requires.legal 0; comes = record { moment_is = refl; act_is = refl }; kept_is = m.times_are }

pub resize-requires-clause-some : goal.resize-requires-clause-some
resize-requires-clause-some g c = (c.requires.legal 0).3.count_in_range.0

pub resize-requires-clause-few : goal.resize-requires-clause-few
resize-requires-clause-few g c = subst (λ (s : Setting). c.args.count ≤ s.most_workers) (sym c.requires.tracked.chooser_is.setting_is) (c.requires.legal 0).3.count_in_range.1

pub returns-clause-tracked : goal.returns-clause-tracked
returns-clause-tracked g c =
    let m = c.requires.tracked.mirrors in
    λ who. workers_tracks g.J.Job.label_of g.X.Chooser.seen c.args.journal.now.config (history c.args.journal.now) c.args.self.now _ who c.args.moment c.args.count c.requires.tracked (c.requires.legal who) (c.staff.ensures c.args.journal.now.config (history c.args.journal.now) _ m.limits (c.requires.legal who) (record { moment_is = refl; act_is = refl }) m.times_are) refl refl refl refl c.resize.ensures
