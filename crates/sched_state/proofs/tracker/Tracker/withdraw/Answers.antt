use Rattle.std.proofs.Common.{ℕ, ◌≡◌, arith, refl, ap, ◌∙◌, pos}
use mir.Val.{to_z, of_z}
use Rattle.std.specs.Int.{w128}
use Rattle.fq_model.specs.declared.config.Config.{Config}
use Rattle.fq_model.specs.Keys.{tag}
use Rattle.tag_rules.proofs.AccountSteps.{accounts_withdraw}
use Rattle.fq_model.specs.declared.event.Act.TheVariants.{Withdraw}
use Rattle.fq_model.specs.Rules.{label_of}
use Rattle.fq_laws.specs.Words.{one_more}
use Rattle.sched_journal.specs.Journal.{history}
use Rattle.waiting_lists.specs.declared.item.Item.{Item}
use Rattle.waiting_lists.specs.Lists.{ListsView, IsRemoved}
use Rattle.sched_state.specs.Lists.{jobs_in}
use Rattle.sched_state.specs.Tracker.{TracksBut}
use Rattle.sched_state.proofs.ListLemmas.{is_found, when_some, removed_asked, withdrawn}
use Rattle.sched_state.proofs.TrackerLemmas.{tag_handed_on, withdraw_ends, withdraw_but, some_but, renewed}
use Rattle.sched_state.proofs.tracker.Tracker.withdraw.Given as given
use Rattle.sched_state.proofs.tracker.Tracker.withdraw.Goals as goal
use Rattle.sched_state.proofs.tracker.Tracker.withdraw.Goals.{After-unwrap-tenant, After-tag-start, After-policy-policy, After-end}

pub unwrap-tenant-requires : goal.unwrap-tenant-requires
unwrap-tenant-requires g c =
    let m = c.requires.tracked.mirrors in
    is_found g.J.Job.label_of c.args.journal.now.config (history c.args.journal.now) c.args.self.now.lists c.args.request c.remove.result m.limits m.legal m.lists_are (c.requires.legal 0).3 c.remove.ensures.none

-- the item that was found is off its list
off : (g : given.Over) (c : After-unwrap-tenant g) → IsRemoved c.args.self.now.lists c.args.request c.unwrap-tenant.result.0 c.unwrap-tenant.result.1 c.remove.new.self
off g c = when_some (λ (x : ℕ × Item g.row.J.Denot). IsRemoved c.args.self.now.lists c.args.request x.0 x.1 c.remove.new.self) c.remove.result c.unwrap-tenant.ensures c.remove.ensures.removed

pub tag-start-requires : goal.tag-start-requires
tag-start-requires g c =
    let m = c.requires.tracked.mirrors in
    let x = off g (goal.at.tag-start-requires g c).After-unwrap-tenant in
    omega (arith, x.known, m.lists_are.tenants, m.accounts_are.charges_sized)

starts : (g : given.Over) (c : After-tag-start g) (who : ℕ) → IsRemoved c.args.self.now.lists c.args.request c.unwrap-tenant.result.0 c.unwrap-tenant.result.1 c.remove.new.self → to_z w128 (of_z w128 c.tag-start.result) ≡ pos (tag c.args.journal.now.config (one_more who c.args.moment (Withdraw c.args.request) (history c.args.journal.now)) c.unwrap-tenant.result.0)
starts g c who x =
    let m = c.requires.tracked.mirrors in
    tag_handed_on c.args.journal.now.config _ c.args.self.now.accounts c.unwrap-tenant.result.0 c.tag-start.result m.limits (c.requires.legal who) (omega (arith, x.known, m.lists_are.tenants)) (accounts_withdraw c.args.journal.now.config (history c.args.journal.now) c.args.self.now.accounts who c.args.moment c.args.request m.accounts_are) c.tag-start.ensures.value

policy_is : (g : given.Over) (c : After-policy-policy g) → c.policy-policy.result ≡ c.args.journal.now.config.policy
policy_is g c = c.policy-policy.ensures.value ∙ ap (λ (x : Config). x.policy) c.config.ensures.config

pub end-requires : goal.end-requires
end-requires g c =
    let m = c.requires.tracked.mirrors in
    let at = goal.at.end-requires g c in
    record { config = c.args.journal.now.config; history = history c.args.journal.now; entry = _; policy_is = policy_is g at.After-policy-policy; limits = m.limits; legal = c.requires.legal 0; ends = withdraw_ends g.J.Job.label_of g.X.Chooser.seen c.args.journal.now.config (history c.args.journal.now) c.args.self.now c.args.self.now c.requires.tracked 0 c.args.moment _ c.args.request _ _ (off g at.After-unwrap-tenant); starts = λ plus. starts g at.After-tag-start 0 (off g at.After-unwrap-tenant); times_are = m.times_are }

-- the tracker is that of the longer history, but for the keys of the tenant
but : (g : given.Over) (c : After-end g) (who : ℕ) → c.policy-policy.result ≡ c.args.journal.now.config.policy → to_z w128 (of_z w128 c.tag-start.result) ≡ pos (tag c.args.journal.now.config (one_more who c.args.moment (Withdraw c.args.request) (history c.args.journal.now)) c.unwrap-tenant.result.0) → IsRemoved c.args.self.now.lists c.args.request c.unwrap-tenant.result.0 c.unwrap-tenant.result.1 c.remove.new.self → TracksBut g.J.Job.label_of g.X.Chooser.seen c.unwrap-tenant.result.0 c.args.journal.now.config (one_more who c.args.moment (Withdraw c.args.request) (history c.args.journal.now)) (record { lists = c.remove.new.self; book = c.args.self.now.book; accounts = c.args.self.now.accounts; costs = c.args.self.now.costs; times = c.end.new.self; chooser = c.args.self.now.chooser })
but g c who same begins x =
    let m = c.requires.tracked.mirrors in
    let times = c.end.ensures c.args.journal.now.config (history c.args.journal.now) _ same m.limits (c.requires.legal who) (withdraw_ends g.J.Job.label_of g.X.Chooser.seen c.args.journal.now.config (history c.args.journal.now) c.args.self.now c.args.self.now c.requires.tracked who c.args.moment _ c.args.request _ _ x) (λ plus. begins) m.times_are in
    withdraw_but g.J.Job.label_of g.X.Chooser.seen c.args.journal.now.config (history c.args.journal.now) c.args.self.now _ c.requires.tracked who c.args.moment c.unwrap-tenant.result.0 c.args.request c.unwrap-tenant.result.1 (c.requires.legal who) x times refl refl refl refl

pub renew-requires : goal.renew-requires
renew-requires g c =
    let at = goal.at.renew-requires g c in
    some_but g.J.Job.label_of g.X.Chooser.seen c.config-2.ensures.config (but g at.After-end 0 (policy_is g at.After-policy-policy) (starts g at.After-tag-start 0 (off g at.After-unwrap-tenant)) (off g at.After-unwrap-tenant))

pub returns-clause-tracked : goal.returns-clause-tracked
returns-clause-tracked g c = λ who.
    let at = goal.at.returns-clause-tracked g c in
    renewed g.J.Job.label_of g.X.Chooser.seen c.config-2.ensures.config (but g at.After-end who (policy_is g at.After-policy-policy) (starts g at.After-tag-start who (off g at.After-unwrap-tenant)) (off g at.After-unwrap-tenant)) c.renew.ensures.tracked

pub returns-clause-job : goal.returns-clause-job
returns-clause-job g c =
    let m = c.requires.tracked.mirrors in
    (withdrawn g.J.Job.label_of c.args.journal.now.config (history c.args.journal.now) 0 c.args.moment c.args.request _ _ _ _ m.limits (c.requires.legal 0) m.lists_are (off g (goal.at.returns-clause-job g c).After-unwrap-tenant)).job_is

pub returns-clause-label : goal.returns-clause-label
returns-clause-label g c =
    ap label_of (removed_asked g.J.Job.label_of c.args.journal.now.config (history c.args.journal.now) c.args.request _ _ _ _ c.requires.tracked.mirrors.lists_are (off g (goal.at.returns-clause-label g c).After-unwrap-tenant))

pub returns-clause-jobs : goal.returns-clause-jobs
returns-clause-jobs g c =
    let m = c.requires.tracked.mirrors in
    ap (λ (w : ListsView g.row.J.Denot). jobs_in w.lists) c.renew.ensures.lists ∙ (withdrawn g.J.Job.label_of c.args.journal.now.config (history c.args.journal.now) 0 c.args.moment c.args.request _ _ _ _ m.limits (c.requires.legal 0) m.lists_are (off g (goal.at.returns-clause-jobs g c).After-unwrap-tenant)).jobs_are
