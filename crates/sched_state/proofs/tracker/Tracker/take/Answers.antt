use Rattle.std.proofs.Common.{ℕ, ◌≤◌, ◌≡◌, arith, refl, sym, ap, ◌∙◌, pos}
use Rattle.std.proofs.lemmas.Int.{ints}
use mir.Val.{to_z, of_z}
use Rattle.std.specs.Int.{w128}
use Rattle.vt_fixed.specs.Rounding.{length_of}
use Rattle.vt_fixed.specs.declared.limits.TheConstants.{GREATEST_COST}
use Rattle.vt_fixed.proofs.Bounds.{length_high}
use Rattle.fq_model.specs.declared.config.Config.{Config}
use Rattle.fq_model.specs.declared.config.Policy.TheVariants.{TwoDfqPlus}
use Rattle.fq_model.specs.declared.event.Entry.{Entry}
use Rattle.fq_model.specs.Keys.{tag}
use Rattle.fq_model.specs.declared.event.Act.TheVariants.{Take}
use Rattle.fq_model.specs.Charge.{completed, estimate_at}
use Rattle.fq_model.specs.Rules.{IsChosen}
use Rattle.fq_laws.specs.Words.{one_more}
use Rattle.fq_laws.proofs.Keys.Tags.{tag_within}
use Rattle.tag_rules.proofs.AccountSteps.{tag_is_sum}
use Rattle.virtual_clock.specs.Histories.{TimesAre, TakesChoice}
use Rattle.virtual_clock.proofs.TakeSteps.{times_take}
use Rattle.waiting_lists.specs.Lists.{ListsView}
use Rattle.sched_journal.specs.Journal.{history}
use Rattle.sched_state.specs.Lists.{jobs_in}
use Rattle.sched_state.specs.Tracker.{TracksBut}
use Rattle.sched_state.proofs.ListLemmas.{taken}
use Rattle.sched_state.proofs.CostLemmas.{estimate_is}
use Rattle.sched_state.proofs.ChargeLemmas.{BeginStep, begin_step, step_charge}
use Rattle.sched_state.proofs.KeyLemmas.{latest_at, worker_in}
use Rattle.sched_state.proofs.TrackerLemmas.{Turns, turns, there, time_at, takes_choice, has_item, item_chosen, legal_take, some_chosen, kind_known, was_asked, weighed_there, weight_there, take_but, some_but, renewed}
use Rattle.sched_state.proofs.tracker.Tracker.take.Given as given
use Rattle.sched_state.proofs.tracker.Tracker.take.Goals as goal
use Rattle.sched_state.proofs.tracker.Tracker.take.Goals.{After-unwrap-tenant, After-weight-weight, After-tag-start, After-policy, After-charge}

pub come_to-requires-clause-later : goal.come_to-requires-clause-later
come_to-requires-clause-later g c = omega (arith, c.requires.may.later, c.requires.tracked.mirrors.times_are.clock_is.moment)

pub come_to-requires-clause-in_range : goal.come_to-requires-clause-in_range
come_to-requires-clause-in_range g c = c.requires.may.in_range

pub choose-requires-clause-worker : goal.choose-requires-clause-worker
choose-requires-clause-worker g c = worker_in c.args.journal.now.config (history c.args.journal.now) c.args.moment (g.X.Chooser.seen c.args.self.now.chooser) c.requires.tracked.mirrors.legal c.requires.tracked.chooser_is c.args.worker c.requires.may.gets.pooled

pub choose-requires-clause-not_back : goal.choose-requires-clause-not_back
choose-requires-clause-not_back g c =
    let v = c.now.ensures in
    omega (arith, ints, time_at g.J.Job.label_of g.X.Chooser.seen c.args.journal.now.config (history c.args.journal.now) c.args.moment c.args.worker c.args.self.now c.requires.tracked c.requires.may.later c.requires.may.in_range c.requires.may.gets.free c.requires.may.gets.pooled c.requires.may.gets.some_waits c.come_to.new.self c.now.result c.come_to.ensures v.value v.low v.high, latest_at c.args.journal.now.config (history c.args.journal.now) c.args.moment (g.X.Chooser.seen c.args.self.now.chooser) c.requires.may.later c.requires.tracked.chooser_is)

pub unwrap-tenant-requires : goal.unwrap-tenant-requires
unwrap-tenant-requires g c = some_chosen g.J.Job.label_of g.X.Chooser.seen c.args.journal.now.config (history c.args.journal.now) c.args.moment c.args.worker c.args.self.now c.requires.tracked c.requires.may.later c.requires.may.in_range c.requires.may.gets.free c.requires.may.gets.pooled c.requires.may.gets.some_waits c.choose.result c.choose.ensures.none

-- the tenant is the choice
turn : (g : given.Over) (c : After-unwrap-tenant g) → Turns g.J.Job.label_of g.X.Chooser.seen c.args.journal.now.config (history c.args.journal.now) c.args.moment c.args.worker c.args.self.now c.requires.tracked c.requires.may.later c.requires.may.in_range c.requires.may.gets.free c.requires.may.gets.pooled c.requires.may.gets.some_waits c.unwrap-tenant.result
turn g c =
    let v = c.now.ensures in
    turns g.J.Job.label_of g.X.Chooser.seen c.args.journal.now.config (history c.args.journal.now) c.args.moment c.args.worker c.args.self.now c.requires.tracked c.requires.may.later c.requires.may.in_range c.requires.may.gets.free c.requires.may.gets.pooled c.requires.may.gets.some_waits c.choose.result c.unwrap-tenant.result _ (time_at g.J.Job.label_of g.X.Chooser.seen c.args.journal.now.config (history c.args.journal.now) c.args.moment c.args.worker c.args.self.now c.requires.tracked c.requires.may.later c.requires.may.in_range c.requires.may.gets.free c.requires.may.gets.pooled c.requires.may.gets.some_waits c.come_to.new.self c.now.result c.come_to.ensures v.value v.low v.high) c.unwrap-tenant.ensures c.choose.ensures.chosen

pub weight-weight-requires : goal.weight-weight-requires
weight-weight-requires g c = weighed_there g.J.Job.label_of g.X.Chooser.seen c.args.journal.now.config (history c.args.journal.now) c.args.moment c.args.worker c.args.self.now c.requires.tracked c.requires.may.later c.requires.may.in_range c.requires.may.gets.free c.requires.may.gets.pooled c.requires.may.gets.some_waits c.come_to.new.self c.unwrap-tenant.result c.come_to.ensures (turn g (goal.at.weight-weight-requires g c).After-unwrap-tenant).known

pub pop-requires : goal.pop-requires
pop-requires g c = omega (arith, (turn g (goal.at.pop-requires g c).After-unwrap-tenant).known, c.requires.tracked.mirrors.lists_are.tenants)

pub unwrap-item-requires : goal.unwrap-item-requires
unwrap-item-requires g c = has_item g.J.Job.label_of g.X.Chooser.seen c.args.journal.now.config (history c.args.journal.now) c.args.moment c.args.worker c.args.self.now c.requires.tracked c.requires.may.later c.requires.may.in_range c.requires.may.gets.free c.requires.may.gets.pooled c.requires.may.gets.some_waits c.unwrap-tenant.result c.pop.result (turn g (goal.at.unwrap-item-requires g c).After-unwrap-tenant) (sym c.pop.ensures.first)

pub now-estimate-requires-clause-tenant : goal.now-estimate-requires-clause-tenant
now-estimate-requires-clause-tenant g c = omega (arith, (turn g (goal.at.now-estimate-requires-clause-tenant g c).After-unwrap-tenant).known, c.requires.tracked.mirrors.costs_are.tenants)

pub now-estimate-requires-clause-kind : goal.now-estimate-requires-clause-kind
now-estimate-requires-clause-kind g c =
    let m = c.requires.tracked.mirrors in
    let x = turn g (goal.at.now-estimate-requires-clause-kind g c).After-unwrap-tenant in
    omega (arith, kind_known g.J.Job.label_of c.args.journal.now.config (history c.args.journal.now) c.unwrap-tenant.result c.args.self.now m x.known c.unwrap-item.result (sym c.pop.ensures.first ∙ c.unwrap-item.ensures), m.costs_are.kinds)

-- this is its estimate
estimated : (g : given.Over) (c : After-weight-weight g) → c.now-estimate.result ≡ estimate_at c.args.journal.now.config (history c.args.journal.now) c.unwrap-tenant.result c.unwrap-item.result.kind c.unwrap-item.result.declared
estimated g c =
    let costs = c.requires.tracked.mirrors.costs_are in
    c.now-estimate.ensures (completed (history c.args.journal.now)) costs.learned ∙ estimate_is c.args.journal.now.config (history c.args.journal.now) c.args.self.now.costs c.unwrap-tenant.result c.unwrap-item.result.kind c.unwrap-item.result.declared costs

-- the item is the chosen request
chosen : (g : given.Over) (c : After-weight-weight g) → Turns g.J.Job.label_of g.X.Chooser.seen c.args.journal.now.config (history c.args.journal.now) c.args.moment c.args.worker c.args.self.now c.requires.tracked c.requires.may.later c.requires.may.in_range c.requires.may.gets.free c.requires.may.gets.pooled c.requires.may.gets.some_waits c.unwrap-tenant.result → IsChosen c.args.journal.now.config (history c.args.journal.now) c.args.moment c.args.worker c.unwrap-item.result.request c.now-estimate.result (record { tenant = c.unwrap-tenant.result; kind = c.unwrap-item.result.kind; declared = c.unwrap-item.result.declared; label = g.J.Job.label_of c.unwrap-item.result.job })
chosen g c x =
    item_chosen g.J.Job.label_of g.X.Chooser.seen c.args.journal.now.config (history c.args.journal.now) c.args.moment c.args.worker c.args.self.now c.requires.tracked c.requires.may.later c.requires.may.in_range c.requires.may.gets.free c.requires.may.gets.pooled c.requires.may.gets.some_waits c.unwrap-tenant.result c.now-estimate.result c.unwrap-item.result x (sym c.pop.ensures.first ∙ c.unwrap-item.ensures) (estimated g c)

-- the step of the book at its Take
begun : (g : given.Over) (c : After-weight-weight g) → Turns g.J.Job.label_of g.X.Chooser.seen c.args.journal.now.config (history c.args.journal.now) c.args.moment c.args.worker c.args.self.now c.requires.tracked c.requires.may.later c.requires.may.in_range c.requires.may.gets.free c.requires.may.gets.pooled c.requires.may.gets.some_waits c.unwrap-tenant.result → (who : ℕ) → BeginStep c.args.journal.now.config (history c.args.journal.now) c.args.self.now.book c.args.self.now.accounts who c.args.moment c.args.worker c.unwrap-item.result.request c.unwrap-tenant.result c.unwrap-item.result.kind c.now-estimate.result c.weight-weight.result
begun g c x who =
    let m = c.requires.tracked.mirrors in
    let asked = was_asked g.J.Job.label_of c.args.journal.now.config (history c.args.journal.now) c.unwrap-tenant.result c.args.self.now m x.known c.unwrap-item.result (sym c.pop.ensures.first ∙ c.unwrap-item.ensures) in
    begin_step c.args.journal.now.config (history c.args.journal.now) c.args.self.now.book c.args.self.now.accounts who c.args.moment c.args.worker c.unwrap-item.result.request c.now-estimate.result c.weight-weight.result _ m.limits (legal_take g.J.Job.label_of g.X.Chooser.seen c.args.journal.now.config (history c.args.journal.now) c.args.moment c.args.worker c.args.self.now c.requires.tracked c.requires.may.later c.requires.may.in_range c.requires.may.gets.free c.requires.may.gets.pooled c.requires.may.gets.some_waits who c.unwrap-tenant.result c.now-estimate.result c.unwrap-item.result (chosen g c x)) asked (weight_there g.J.Job.label_of g.X.Chooser.seen c.args.journal.now.config (history c.args.journal.now) c.args.moment c.args.worker c.args.self.now c.requires.tracked c.requires.may.later c.requires.may.in_range c.requires.may.gets.free c.requires.may.gets.pooled c.requires.may.gets.some_waits c.come_to.new.self c.unwrap-tenant.result c.weight-weight.result c.come_to.ensures c.weight-weight.ensures.value x.known) m.book_is m.accounts_are

pub begin-change-requires-clause-free : goal.begin-change-requires-clause-free
begin-change-requires-clause-free g c = let at = goal.at.begin-change-requires-clause-free g c in (begun g at.After-weight-weight (turn g at.After-unwrap-tenant) 0).free

pub begin-change-requires-clause-worker : goal.begin-change-requires-clause-worker
begin-change-requires-clause-worker g c = let at = goal.at.begin-change-requires-clause-worker g c in (begun g at.After-weight-weight (turn g at.After-unwrap-tenant) 0).worker

pub begin-change-requires-clause-tenant : goal.begin-change-requires-clause-tenant
begin-change-requires-clause-tenant g c = omega (arith, (turn g (goal.at.begin-change-requires-clause-tenant g c).After-unwrap-tenant).known, c.requires.tracked.mirrors.book_is.tenants)

pub begin-change-requires-clause-weight_positive : goal.begin-change-requires-clause-weight_positive
begin-change-requires-clause-weight_positive g c = c.weight-weight.ensures.low

pub begin-change-requires-clause-weight_in_range : goal.begin-change-requires-clause-weight_in_range
begin-change-requires-clause-weight_in_range g c = c.weight-weight.ensures.high

pub begin-change-requires-clause-estimate : goal.begin-change-requires-clause-estimate
begin-change-requires-clause-estimate g c = let at = goal.at.begin-change-requires-clause-estimate g c in (begun g at.After-weight-weight (turn g at.After-unwrap-tenant) 0).estimate_low

pub begin-change-requires-clause-few : goal.begin-change-requires-clause-few
begin-change-requires-clause-few g c = let at = goal.at.begin-change-requires-clause-few g c in (begun g at.After-weight-weight (turn g at.After-unwrap-tenant) 0).few

pub tag-start-requires : goal.tag-start-requires
tag-start-requires g c = omega (arith, (turn g (goal.at.tag-start-requires g c).After-unwrap-tenant).known, c.requires.tracked.mirrors.accounts_are.charges_sized)

-- the Take, and its keys under 2dfq+
abbrev took : (g : given.Over) (c : After-tag-start g) (who : ℕ) → Entry
took g c who = record { who = who; moment = c.args.moment; act = Take c.args.worker c.unwrap-item.result.request c.now-estimate.result }

takes : (g : given.Over) (c : After-tag-start g) → c.now-estimate.result ≤ GREATEST_COST → c.now-estimate.result ≡ estimate_at c.args.journal.now.config (history c.args.journal.now) c.unwrap-tenant.result c.unwrap-item.result.kind c.unwrap-item.result.declared → Turns g.J.Job.label_of g.X.Chooser.seen c.args.journal.now.config (history c.args.journal.now) c.args.moment c.args.worker c.args.self.now c.requires.tracked c.requires.may.later c.requires.may.in_range c.requires.may.gets.free c.requires.may.gets.pooled c.requires.may.gets.some_waits c.unwrap-tenant.result → (who : ℕ) → c.args.journal.now.config.policy ≡ TwoDfqPlus → TakesChoice c.args.worker (to_z w128 (of_z w128 c.tag-start.result)) (to_z w128 (of_z w128 c.begin-change.result)) c.args.journal.now.config (history c.args.journal.now) (took g c who)
takes g c low_cost costs x who plus =
    let m = c.requires.tracked.mirrors in
    let C = c.args.journal.now.config in
    let P = history c.args.journal.now in
    let sum = tag_is_sum C P c.args.self.now.accounts c.unwrap-tenant.result x.known m.accounts_are in
    let low = tag_within C P c.unwrap-tenant.result m.limits m.legal in
    let begins : to_z w128 (of_z w128 c.tag-start.result) ≡ pos (tag C P c.unwrap-tenant.result) = omega (arith, ints, sum, low, c.tag-start.ensures.value) in
    let short = length_high c.now-estimate.result c.weight-weight.result low_cost c.weight-weight.ensures.low in
    let lasts : to_z w128 (of_z w128 c.begin-change.result) ≡ pos (length_of c.now-estimate.result c.weight-weight.result) = omega (arith, ints, short, c.begin-change.ensures.change) in
    takes_choice g.J.Job.label_of g.X.Chooser.seen c.args.journal.now.config (history c.args.journal.now) c.args.moment c.args.worker c.args.self.now c.requires.tracked c.requires.may.later c.requires.may.in_range c.requires.may.gets.free c.requires.may.gets.pooled c.requires.may.gets.some_waits who c.unwrap-tenant.result c.now-estimate.result c.weight-weight.result c.unwrap-item.result _ _ x (sym c.pop.ensures.first ∙ c.unwrap-item.ensures) costs (weight_there g.J.Job.label_of g.X.Chooser.seen c.args.journal.now.config (history c.args.journal.now) c.args.moment c.args.worker c.args.self.now c.requires.tracked c.requires.may.later c.requires.may.in_range c.requires.may.gets.free c.requires.may.gets.pooled c.requires.may.gets.some_waits c.come_to.new.self c.unwrap-tenant.result c.weight-weight.result c.come_to.ensures c.weight-weight.ensures.value x.known) begins lasts plus

policy_is : (g : given.Over) (c : After-policy g) → c.policy.result ≡ c.args.journal.now.config.policy
policy_is g c = c.policy.ensures.value ∙ ap (λ (x : Config). x.policy) c.config.ensures.config

pub take-requires : goal.take-requires
take-requires g c = λ plus.
    let at = goal.at.take-requires g c in
    let m = c.requires.tracked.mirrors in
    let x = turn g at.After-unwrap-tenant in
    let paced = sym (policy_is g at.After-policy) ∙ plus in
    record {
      config = c.args.journal.now.config;
      history = history c.args.journal.now;
      entry = took g at.After-tag-start 0;
      paced = paced;
      limits = m.limits;
      legal = (begun g at.After-weight-weight x 0).step.legal;
      takes = takes g at.After-tag-start (begun g at.After-weight-weight x 0).estimate_low (estimated g at.After-weight-weight) x 0 paced;
      times_at = there g.J.Job.label_of g.X.Chooser.seen c.args.journal.now.config (history c.args.journal.now) c.args.moment c.args.worker c.args.self.now c.requires.tracked c.requires.may.later c.requires.may.in_range c.requires.may.gets.free c.requires.may.gets.pooled c.requires.may.gets.some_waits c.come_to.new.self c.come_to.ensures;
    }

pub charge-requires-clause-tenant : goal.charge-requires-clause-tenant
charge-requires-clause-tenant g c = omega (arith, (turn g (goal.at.charge-requires-clause-tenant g c).After-unwrap-tenant).known, c.requires.tracked.mirrors.accounts_are.charges_sized)

pub charge-requires-clause-low : goal.charge-requires-clause-low
charge-requires-clause-low g c = let at = goal.at.charge-requires-clause-low g c in (step_charge c.args.journal.now.config (history c.args.journal.now) _ c.args.self.now.accounts c.unwrap-tenant.result _ _ c.begin-change.result (begun g at.After-weight-weight (turn g at.After-unwrap-tenant) 0).step c.begin-change.ensures.change).0

pub charge-requires-clause-high : goal.charge-requires-clause-high
charge-requires-clause-high g c = let at = goal.at.charge-requires-clause-high g c in (step_charge c.args.journal.now.config (history c.args.journal.now) _ c.args.self.now.accounts c.unwrap-tenant.result _ _ c.begin-change.result (begun g at.After-weight-weight (turn g at.After-unwrap-tenant) 0).step c.begin-change.ensures.change).1

-- the tracker is that of the longer history, but for the keys of the tenant
but : (g : given.Over) (c : After-charge g) (who : ℕ) → BeginStep c.args.journal.now.config (history c.args.journal.now) c.args.self.now.book c.args.self.now.accounts who c.args.moment c.args.worker c.unwrap-item.result.request c.unwrap-tenant.result c.unwrap-item.result.kind c.now-estimate.result c.weight-weight.result → TimesAre c.args.journal.now.config (one_more who c.args.moment (Take c.args.worker c.unwrap-item.result.request c.now-estimate.result) (history c.args.journal.now)) c.take.new.self → TracksBut g.J.Job.label_of g.X.Chooser.seen c.unwrap-tenant.result c.args.journal.now.config (one_more who c.args.moment (Take c.args.worker c.unwrap-item.result.request c.now-estimate.result) (history c.args.journal.now)) (record { lists = c.pop.new.self; book = c.begin-change.new.self; accounts = c.charge.new.self; costs = c.args.self.now.costs; times = c.take.new.self; chooser = c.choose.new.self })
but g c who x times =
    let v = c.now.ensures in
    take_but g.J.Job.label_of g.X.Chooser.seen c.args.journal.now.config (history c.args.journal.now) c.args.self.now _ c.requires.tracked who c.args.moment c.args.worker c.unwrap-tenant.result c.now-estimate.result c.weight-weight.result c.unwrap-item.result _ c.begin-change.result x (sym c.pop.ensures.first ∙ c.unwrap-item.ensures) times (time_at g.J.Job.label_of g.X.Chooser.seen c.args.journal.now.config (history c.args.journal.now) c.args.moment c.args.worker c.args.self.now c.requires.tracked c.requires.may.later c.requires.may.in_range c.requires.may.gets.free c.requires.may.gets.pooled c.requires.may.gets.some_waits c.come_to.new.self c.now.result c.come_to.ensures v.value v.low v.high) c.begin-change.ensures.change c.begin-change.ensures.book c.charge.ensures c.pop.ensures.rest refl c.choose.ensures.seen

pub renew-requires : goal.renew-requires
renew-requires g c =
    let at = goal.at.renew-requires g c in
    let turn_is = turn g at.After-unwrap-tenant in
    let x = begun g at.After-weight-weight turn_is 0 in
    some_but g.J.Job.label_of g.X.Chooser.seen c.config-2.ensures.config (but g at.After-charge 0 x (times_take c.args.journal.now.config (history c.args.journal.now) (took g at.After-tag-start 0) c.policy.result c.args.worker _ _ c.come_to.new.self c.take.new.self (policy_is g at.After-policy) c.requires.tracked.mirrors.limits x.step.legal refl (takes g at.After-tag-start x.estimate_low (estimated g at.After-weight-weight) turn_is 0) c.take.ensures.paced c.take.ensures.by_clock (there g.J.Job.label_of g.X.Chooser.seen c.args.journal.now.config (history c.args.journal.now) c.args.moment c.args.worker c.args.self.now c.requires.tracked c.requires.may.later c.requires.may.in_range c.requires.may.gets.free c.requires.may.gets.pooled c.requires.may.gets.some_waits c.come_to.new.self c.come_to.ensures)))

pub returns : goal.returns
returns g c =
    let at = goal.at.returns g c in
    let m = c.requires.tracked.mirrors in
    let turn_is = turn g at.After-unwrap-tenant in
    let x = begun g at.After-weight-weight turn_is in
    let out = taken g.J.Job.label_of c.args.journal.now.config (history c.args.journal.now) 0 c.args.moment c.args.worker c.now-estimate.result c.unwrap-tenant.result c.unwrap-item.result c.args.self.now.lists c.pop.new.self m.limits (x 0).step.legal turn_is.known m.lists_are (sym c.pop.ensures.first ∙ c.unwrap-item.ensures) c.pop.ensures.rest in
    record {
      asked = _;
      label_is = refl;
      chosen = chosen g at.After-weight-weight turn_is;
      tracks = λ who. renewed g.J.Job.label_of g.X.Chooser.seen c.config-2.ensures.config (but g at.After-charge who (x who) (times_take c.args.journal.now.config (history c.args.journal.now) (took g at.After-tag-start who) c.policy.result c.args.worker _ _ c.come_to.new.self c.take.new.self (policy_is g at.After-policy) c.requires.tracked.mirrors.limits (x who).step.legal refl (takes g at.After-tag-start (x who).estimate_low (estimated g at.After-weight-weight) turn_is who) c.take.ensures.paced c.take.ensures.by_clock (there g.J.Job.label_of g.X.Chooser.seen c.args.journal.now.config (history c.args.journal.now) c.args.moment c.args.worker c.args.self.now c.requires.tracked c.requires.may.later c.requires.may.in_range c.requires.may.gets.free c.requires.may.gets.pooled c.requires.may.gets.some_waits c.come_to.new.self c.come_to.ensures))) c.renew.ensures.tracked;
      job_is = out.job_is;
      jobs_are = ap (λ (w : ListsView g.row.J.Denot). jobs_in w.lists) c.renew.ensures.lists ∙ out.jobs_are;
    }
