use Rattle.std.proofs.Common.{ℕ, ◌≡◌, arith, refl, ap, ◌∙◌, pos}
use mir.Val.{to_z, of_z}
use Rattle.std.specs.Int.{w128}
use Rattle.fq_model.specs.declared.config.Config.{Config}
use Rattle.fq_model.specs.Keys.{tag}
use Rattle.tag_rules.specs.Accounts.{AccountsAre}
use Rattle.fq_model.specs.declared.event.Act.TheVariants.{Done}
use Rattle.fq_model.specs.Charge.{completed}
use Rattle.fq_laws.specs.Words.{one_more}
use Rattle.sched_journal.specs.Journal.{history}
use Rattle.sched_state.specs.Tracker.{TracksBut}
use Rattle.sched_state.proofs.ChargeLemmas.{finish_step, step_sized, step_charge, step_accounts}
use Rattle.sched_state.proofs.CostLemmas.{costs_learned}
use Rattle.sched_state.proofs.TrackerLemmas.{tag_handed_on, done_but, some_but, renewed}
use Rattle.sched_state.proofs.tracker.Tracker.done.Given as given
use Rattle.sched_state.proofs.tracker.Tracker.done.Goals as goal
use Rattle.sched_state.proofs.tracker.Tracker.done.Goals.{After-charge, After-tag-start, After-policy-policy, After-end}

pub charge-requires : goal.charge-requires
charge-requires g c =
    let m = c.requires.tracked.mirrors in
    let x = finish_step c.args.journal.now.config (history c.args.journal.now) c.args.self.now.book c.args.self.now.accounts 0 c.args.moment c.args.worker c.args.cost c.args.row m.limits (c.requires.legal 0) m.book_is m.accounts_are c.requires.row.row_is in
    let change = c.record_cost-correction.ensures.change in
    let fits = step_charge c.args.journal.now.config (history c.args.journal.now) _ c.args.self.now.accounts c.args.row.tenant _ _ c.record_cost-correction.result x.step change in
    record { tenant = step_sized c.args.journal.now.config (history c.args.journal.now) _ c.args.self.now.accounts c.args.row.tenant _ _ c.record_cost-correction.result x.step change; low = fits.0; high = fits.1 }

pub learn-requires : goal.learn-requires
learn-requires g c =
    let m = c.requires.tracked.mirrors in
    let x = finish_step c.args.journal.now.config (history c.args.journal.now) c.args.self.now.book c.args.self.now.accounts 0 c.args.moment c.args.worker c.args.cost c.args.row m.limits (c.requires.legal 0) m.book_is m.accounts_are c.requires.row.row_is in
    record { tenant = omega (arith, x.step.tenant_known, m.costs_are.tenants); kind = omega (arith, x.kind_known, m.costs_are.kinds); cost = x.cost_low }

-- the accounts after the correction are those of the longer history, so the tenant starts there
corrected : (g : given.Over) (c : After-charge g) (who : ℕ) → AccountsAre c.args.journal.now.config (one_more who c.args.moment (Done c.args.worker c.args.row.request c.args.cost) (history c.args.journal.now)) c.charge.new.self
corrected g c who =
    let m = c.requires.tracked.mirrors in
    let x = finish_step c.args.journal.now.config (history c.args.journal.now) c.args.self.now.book c.args.self.now.accounts who c.args.moment c.args.worker c.args.cost c.args.row m.limits (c.requires.legal who) m.book_is m.accounts_are c.requires.row.row_is in
    step_accounts c.args.journal.now.config (history c.args.journal.now) _ c.args.self.now.accounts c.args.row.tenant _ _ c.record_cost-correction.result x.step c.record_cost-correction.ensures.change c.charge.new.self refl c.charge.ensures

pub tag-start-requires : goal.tag-start-requires
tag-start-requires g c =
    let m = c.requires.tracked.mirrors in
    let x = finish_step c.args.journal.now.config (history c.args.journal.now) c.args.self.now.book c.args.self.now.accounts 0 c.args.moment c.args.worker c.args.cost c.args.row m.limits (c.requires.legal 0) m.book_is m.accounts_are c.requires.row.row_is in
    omega (arith, x.step.tenant_known, (corrected g (goal.at.tag-start-requires g c).After-charge 0).charges_sized)

starts : (g : given.Over) (c : After-tag-start g) (who : ℕ) → AccountsAre c.args.journal.now.config (one_more who c.args.moment (Done c.args.worker c.args.row.request c.args.cost) (history c.args.journal.now)) c.charge.new.self → to_z w128 (of_z w128 c.tag-start.result) ≡ pos (tag c.args.journal.now.config (one_more who c.args.moment (Done c.args.worker c.args.row.request c.args.cost) (history c.args.journal.now)) c.args.row.tenant)
starts g c who are =
    let m = c.requires.tracked.mirrors in
    let x = finish_step c.args.journal.now.config (history c.args.journal.now) c.args.self.now.book c.args.self.now.accounts who c.args.moment c.args.worker c.args.cost c.args.row m.limits (c.requires.legal who) m.book_is m.accounts_are c.requires.row.row_is in
    tag_handed_on c.args.journal.now.config _ c.charge.new.self c.args.row.tenant c.tag-start.result m.limits (c.requires.legal who) x.step.tenant_known are c.tag-start.ensures.value

policy_is : (g : given.Over) (c : After-policy-policy g) → c.policy-policy.result ≡ c.args.journal.now.config.policy
policy_is g c = c.policy-policy.ensures.value ∙ ap (λ (x : Config). x.policy) c.config.ensures.config

pub end-requires : goal.end-requires
end-requires g c =
    let m = c.requires.tracked.mirrors in
    let x = finish_step c.args.journal.now.config (history c.args.journal.now) c.args.self.now.book c.args.self.now.accounts 0 c.args.moment c.args.worker c.args.cost c.args.row m.limits (c.requires.legal 0) m.book_is m.accounts_are c.requires.row.row_is in
    let at = goal.at.end-requires g c in
    record { config = c.args.journal.now.config; history = history c.args.journal.now; entry = _; policy_is = policy_is g at.After-policy-policy; limits = m.limits; legal = c.requires.legal 0; ends = x.ends; starts = λ plus. starts g at.After-tag-start 0 (corrected g at.After-charge 0); times_are = m.times_are }

-- the tracker is that of the longer history, but for the keys of the tenant
but : (g : given.Over) (c : After-end g) (who : ℕ) → c.policy-policy.result ≡ c.args.journal.now.config.policy → to_z w128 (of_z w128 c.tag-start.result) ≡ pos (tag c.args.journal.now.config (one_more who c.args.moment (Done c.args.worker c.args.row.request c.args.cost) (history c.args.journal.now)) c.args.row.tenant) → TracksBut g.J.Job.label_of g.X.Chooser.seen c.args.row.tenant c.args.journal.now.config (one_more who c.args.moment (Done c.args.worker c.args.row.request c.args.cost) (history c.args.journal.now)) (record { lists = c.args.self.now.lists; book = c.record_cost-correction.new.self; accounts = c.charge.new.self; costs = c.learn.new.self; times = c.end.new.self; chooser = c.args.self.now.chooser })
but g c who same begins =
    let m = c.requires.tracked.mirrors in
    let x = finish_step c.args.journal.now.config (history c.args.journal.now) c.args.self.now.book c.args.self.now.accounts who c.args.moment c.args.worker c.args.cost c.args.row m.limits (c.requires.legal who) m.book_is m.accounts_are c.requires.row.row_is in
    let l = c.learn.ensures in
    let times = c.end.ensures c.args.journal.now.config (history c.args.journal.now) _ same m.limits (c.requires.legal who) x.ends (λ plus. begins) m.times_are in
    done_but g.J.Job.label_of g.X.Chooser.seen c.args.journal.now.config (history c.args.journal.now) c.args.self.now _ c.requires.tracked who c.args.moment c.args.worker c.args.cost c.args.row c.record_cost-correction.result x times c.record_cost-correction.ensures.change c.record_cost-correction.ensures.book c.charge.ensures (costs_learned c.args.journal.now.config (history c.args.journal.now) _ (record { tenant = c.args.row.tenant; kind = c.args.row.kind; cost = c.args.cost }) c.args.self.now.costs c.learn.new.self m.costs_are x.completed_is l.rule l.initial l.tenants l.kinds (l.learned (completed (history c.args.journal.now)) m.costs_are.learned)) refl refl

pub renew-requires : goal.renew-requires
renew-requires g c =
    let at = goal.at.renew-requires g c in
    some_but g.J.Job.label_of g.X.Chooser.seen c.config-2.ensures.config (but g at.After-end 0 (policy_is g at.After-policy-policy) (starts g at.After-tag-start 0 (corrected g at.After-charge 0)))

pub returns-clause-tracked : goal.returns-clause-tracked
returns-clause-tracked g c = λ who.
    let at = goal.at.returns-clause-tracked g c in
    renewed g.J.Job.label_of g.X.Chooser.seen c.config-2.ensures.config (but g at.After-end who (policy_is g at.After-policy-policy) (starts g at.After-tag-start who (corrected g at.After-charge who))) c.renew.ensures.tracked
