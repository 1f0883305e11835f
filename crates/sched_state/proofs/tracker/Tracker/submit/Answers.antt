use Rattle.std.proofs.Common.{ℕ, ◌≡◌, arith, refl, ap, ◌∙◌, ℤ}
use Rattle.std.specs.Prelude.{slice_get, is_none, if◌then◌else◌}
use Rattle.std.proofs.lemmas.Int.{ints}
use mir.Val.{to_z, of_z}
use Rattle.std.specs.Int.{w128}
use Rattle.fq_model.specs.declared.event.Entry.{Entry}
use Rattle.fq_laws.specs.Words.{one_more}
use Rattle.sched_journal.specs.Journal.{history}
use Rattle.sched_state.specs.Tracker.{TracksBut, submit_act}
use Rattle.tag_rules.specs.Accounts.{raised}
use Rattle.waiting_lists.specs.Lists.{ListsView, list_of}
use Rattle.sched_state.specs.Lists.{jobs_in}
use Rattle.sched_state.proofs.ListLemmas.{pushed, room_left, when_ok}
use Rattle.sched_state.proofs.TrackerLemmas.{submit_but, some_but, renewed}
use Rattle.sched_state.proofs.tracker.Tracker.submit.Given as given
use Rattle.sched_state.proofs.tracker.Tracker.submit.Goals as goal
use Rattle.sched_state.proofs.tracker.Tracker.submit.Goals.{After-unwrap}

pub submit-requires : goal.submit-requires
submit-requires g c =
    let m = c.requires.tracked.mirrors in
    let e : Entry = record { who = 0; moment = c.args.moment; act = submit_act g.J.Job.label_of c.args.tenant c.args.item } in
    record { config = c.args.journal.now.config; history = history c.args.journal.now; entry = e; limits = m.limits; legal = c.requires.legal 0; comes = record { request = c.args.item.request; kind = c.args.item.kind; declared = c.args.item.declared; label = g.J.Job.label_of c.args.item.job; moment_is = refl; act_is = refl }; kept_is = m.times_are }

pub raise_first-requires-clause-known : goal.raise_first-requires-clause-known
raise_first-requires-clause-known g c = omega (arith, (c.requires.legal 0).3.tenant_known, c.requires.tracked.mirrors.accounts_are.charges_sized)

pub raise_first-requires-clause-listed : goal.raise_first-requires-clause-listed
raise_first-requires-clause-listed g c = omega (arith, (c.requires.legal 0).3.tenant_known, c.requires.tracked.mirrors.lists_are.tenants)

pub push-requires : goal.push-requires
push-requires g c = omega (arith, (c.requires.legal 0).3.tenant_known, c.requires.tracked.mirrors.lists_are.tenants)

pub unwrap-requires : goal.unwrap-requires
unwrap-requires g c = room_left g.J.Job.label_of c.args.journal.now.config (history c.args.journal.now) c.args.self.now.lists c.push.result (c.requires.legal 0).3.slot c.requires.tracked.mirrors.lists_are c.push.ensures.full

-- the tracker is that of the longer history, but for the keys of the tenant
but : (g : given.Over) (c : After-unwrap g) (who : ℕ) → TracksBut g.J.Job.label_of g.X.Chooser.seen c.args.tenant c.args.journal.now.config (one_more who c.args.moment (submit_act g.J.Job.label_of c.args.tenant c.args.item) (history c.args.journal.now)) (record { lists = c.push.new.self; book = c.args.self.now.book; accounts = c.raise_first.new.accounts; costs = c.args.self.now.costs; times = c.submit.new.self; chooser = c.args.self.now.chooser })
but g c who =
    let m = c.requires.tracked.mirrors in
    let v = c.now.ensures in
    let back : to_z w128 (of_z w128 c.now.result) ≡ c.now.result = omega (arith, ints, v.low, v.high) in
    submit_but g.J.Job.label_of g.X.Chooser.seen c.args.journal.now.config (history c.args.journal.now) c.args.self.now _ c.requires.tracked who c.args.moment c.args.tenant c.args.item c.now.result (c.requires.legal who) (λ e comes legal. c.submit.ensures c.args.journal.now.config (history c.args.journal.now) e m.limits legal comes m.times_are) v.value (c.raise_first.ensures ∙ ap (λ (z : ℤ). if is_none (slice_get (list_of c.args.self.now.lists c.args.tenant) 0) then raised c.args.self.now.accounts c.args.tenant z else c.args.self.now.accounts) back) (when_ok c.push.result c.unwrap.ensures c.push.ensures.pushed) refl refl refl

pub renew-requires : goal.renew-requires
renew-requires g c = some_but g.J.Job.label_of g.X.Chooser.seen c.config.ensures.config (but g (goal.at.renew-requires g c).After-unwrap 0)

pub returns-clause-tracked : goal.returns-clause-tracked
returns-clause-tracked g c = λ who. renewed g.J.Job.label_of g.X.Chooser.seen c.config.ensures.config (but g (goal.at.returns-clause-tracked g c).After-unwrap who) c.renew.ensures.tracked

pub returns-clause-jobs : goal.returns-clause-jobs
returns-clause-jobs g c =
    let m = c.requires.tracked.mirrors in
    ap (λ (w : ListsView g.row.J.Denot). jobs_in w.lists) c.renew.ensures.lists ∙ (pushed g.J.Job.label_of c.args.journal.now.config (history c.args.journal.now) 0 c.args.moment c.args.tenant (g.J.Job.label_of c.args.item.job) c.args.item c.args.self.now.lists c.push.new.self m.limits (c.requires.legal 0) refl m.lists_are (when_ok c.push.result c.unwrap.ensures c.push.ensures.pushed)).jobs_are
