use Rattle.std.proofs.Common.{ℕ, arith, refl}
use Rattle.fq_model.specs.declared.event.Act.TheVariants.{Report}
use Rattle.fq_laws.specs.Words.{one_more}
use Rattle.sched_journal.specs.Journal.{history}
use Rattle.sched_state.specs.Tracker.{TracksBut}
use Rattle.sched_state.proofs.ChargeLemmas.{report_step, step_sized, step_charge}
use Rattle.sched_state.proofs.TrackerLemmas.{report_but, some_but, renewed}
use Rattle.sched_state.proofs.tracker.Tracker.report.Given as given
use Rattle.sched_state.proofs.tracker.Tracker.report.Goals as goal
use Rattle.sched_state.proofs.tracker.Tracker.report.Goals.{After-pass}

pub charge-requires : goal.charge-requires
charge-requires g c =
    let m = c.requires.tracked.mirrors in
    let x = report_step c.args.journal.now.config (history c.args.journal.now) c.args.self.now.book c.args.self.now.accounts 0 c.args.moment c.args.worker c.args.used c.args.row m.limits (c.requires.legal 0) m.book_is m.accounts_are c.requires.row.row_is in
    let change = c.record_use-change.ensures.change in
    let fits = step_charge c.args.journal.now.config (history c.args.journal.now) _ c.args.self.now.accounts c.args.row.tenant _ _ c.record_use-change.result x.step change in
    record { tenant = step_sized c.args.journal.now.config (history c.args.journal.now) _ c.args.self.now.accounts c.args.row.tenant _ _ c.record_use-change.result x.step change; low = fits.0; high = fits.1 }

pub pass-requires : goal.pass-requires
pass-requires g c =
    let m = c.requires.tracked.mirrors in
    record { config = c.args.journal.now.config; history = history c.args.journal.now; entry = record { who = 0; moment = c.args.moment; act = Report c.args.worker c.args.row.request c.args.used }; limits = m.limits; legal = c.requires.legal 0; comes = record { moment_is = refl; passes = refl }; kept_is = m.times_are }

-- the tracker is that of the longer history, but for the keys of the tenant
but : (g : given.Over) (c : After-pass g) (who : ℕ) → TracksBut g.J.Job.label_of g.X.Chooser.seen c.args.row.tenant c.args.journal.now.config (one_more who c.args.moment (Report c.args.worker c.args.row.request c.args.used) (history c.args.journal.now)) (record { lists = c.args.self.now.lists; book = c.record_use-change.new.self; accounts = c.charge.new.self; costs = c.args.self.now.costs; times = c.pass.new.self; chooser = c.args.self.now.chooser })
but g c who =
    let m = c.requires.tracked.mirrors in
    report_but g.J.Job.label_of g.X.Chooser.seen c.args.journal.now.config (history c.args.journal.now) c.args.self.now _ c.requires.tracked who c.args.moment c.args.worker c.args.used c.args.row c.record_use-change.result (report_step c.args.journal.now.config (history c.args.journal.now) c.args.self.now.book c.args.self.now.accounts who c.args.moment c.args.worker c.args.used c.args.row m.limits (c.requires.legal who) m.book_is m.accounts_are c.requires.row.row_is) (λ e comes legal. c.pass.ensures c.args.journal.now.config (history c.args.journal.now) e m.limits legal comes m.times_are) c.record_use-change.ensures.change c.record_use-change.ensures.book c.charge.ensures refl refl refl

pub renew-requires : goal.renew-requires
renew-requires g c = some_but g.J.Job.label_of g.X.Chooser.seen c.config.ensures.config (but g (goal.at.renew-requires g c).After-pass 0)

pub returns-clause-tracked : goal.returns-clause-tracked
returns-clause-tracked g c = λ who. renewed g.J.Job.label_of g.X.Chooser.seen c.config.ensures.config (but g (goal.at.returns-clause-tracked g c).After-pass who) c.renew.ensures.tracked
