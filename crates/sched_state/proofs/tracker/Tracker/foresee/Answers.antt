use Rattle.std.proofs.Common.{◌≡◌, arith, refl, sym, ap, subst, ◌∙◌, pos}
use Rattle.std.proofs.lemmas.Int.{ints}
use Rattle.std.specs.Prelude.{option_copied}
use Rattle.std.specs.Int.{w128}
use mir.Val.{to_z, of_z}
use Rattle.fq_model.specs.Pace.{virtual_time}
use Rattle.virtual_clock.specs.Histories.{WeightsAre}
use Rattle.sched_journal.specs.Journal.{history}
use Rattle.sched_state.proofs.KeyLemmas.{latest_at}
use Rattle.sched_state.proofs.TrackerLemmas.{Turns, turns_with, has_item, item_chosen, chosen_keys, kind_known}
use Rattle.sched_state.proofs.CostLemmas.{estimate_is}
use Rattle.sched_state.proofs.ForeseeLemmas.{time_read, some_foreseen, same_eligible, same_smaller, has_copied}
use Rattle.tag_rules.specs.Tables.{turn_of}
use Rattle.tag_rules.specs.Foreseen.{IsForeseenOver, IsForeseenChoice}
use Rattle.fq_model.specs.Charge.{completed, estimate_at}
use Rattle.sched_state.proofs.tracker.Tracker.foresee.Given as given
use Rattle.sched_state.proofs.tracker.Tracker.foresee.Goals as goal
use Rattle.sched_state.proofs.tracker.Tracker.foresee.Goals.{After-unwrap-choice}

pub foresee-requires-clause-not_back : goal.foresee-requires-clause-not_back
foresee-requires-clause-not_back g c =
    let m = c.requires.tracked.mirrors in
    let time = time_read c.at-v.result _ (c.at-v.ensures.value c.args.journal.now.config (history c.args.journal.now) m.limits m.legal m.times_are) c.at-v.ensures.low c.at-v.ensures.high in
    omega (arith, ints, time, latest_at c.args.journal.now.config (history c.args.journal.now) c.effective.result (g.X.Chooser.seen c.args.self.now.chooser) c.effective.ensures.later c.requires.tracked.chooser_is)

pub unwrap-choice-requires : goal.unwrap-choice-requires
unwrap-choice-requires g c =
    let m = c.requires.tracked.mirrors in
    let time = time_read c.at-v.result _ (c.at-v.ensures.value c.args.journal.now.config (history c.args.journal.now) m.limits m.legal m.times_are) c.at-v.ensures.low c.at-v.ensures.high in
    some_foreseen c.args.journal.now.config (history c.args.journal.now) c.effective.result c.args.worker (g.X.Chooser.seen c.args.self.now.chooser) _ c.requires.tracked.mirrors.legal c.requires.tracked.chooser_is time c.weights-weights.result.now c.args.below c.foresee.result c.requires.gets.some_waits c.foresee.ensures

-- the choice that the chooser foresees
found : (g : given.Over) (c : After-unwrap-choice g) → IsForeseenChoice (turn_of (g.X.Chooser.seen c.args.self.now.chooser).setting c.args.worker (to_z w128 (of_z w128 c.at-v.result))) (g.X.Chooser.seen c.args.self.now.chooser).table c.weights-weights.result.now c.args.below c.unwrap-choice.result
found g c = subst (λ o. IsForeseenOver (turn_of (g.X.Chooser.seen c.args.self.now.chooser).setting c.args.worker (to_z w128 (of_z w128 c.at-v.result))) (g.X.Chooser.seen c.args.self.now.chooser).table c.weights-weights.result.now c.args.below o) c.unwrap-choice.ensures c.foresee.ensures

-- virtual time at the moment, as it is handed on
time_is : (g : given.Over) (c : After-unwrap-choice g) → to_z w128 (of_z w128 c.at-v.result) ≡ pos (virtual_time c.args.journal.now.config (history c.args.journal.now) c.effective.result)
time_is g c =
    let m = c.requires.tracked.mirrors in
    time_read c.at-v.result _ (c.at-v.ensures.value c.args.journal.now.config (history c.args.journal.now) m.limits m.legal m.times_are) c.at-v.ensures.low c.at-v.ensures.high

-- the tenant whose head is chosen
turn : (g : given.Over) (c : After-unwrap-choice g) → Turns g.J.Job.label_of g.X.Chooser.seen c.args.journal.now.config (history c.args.journal.now) c.effective.result c.args.worker c.args.self.now c.requires.tracked c.effective.ensures.later c.effective.ensures.in_range c.requires.gets.free c.requires.gets.pooled c.requires.gets.some_waits c.unwrap-choice.result.tenant
turn g c =
    let f = found g c in
    turns_with g.J.Job.label_of g.X.Chooser.seen c.args.journal.now.config (history c.args.journal.now) c.effective.result c.args.worker c.args.self.now c.requires.tracked c.effective.ensures.later c.effective.ensures.in_range c.requires.gets.free c.requires.gets.pooled c.requires.gets.some_waits c.unwrap-choice.result.tenant _ f.keys (time_is g c) f.choice

pub head-requires : goal.head-requires
head-requires g c = omega (arith, (turn g (goal.at.head-requires g c).After-unwrap-choice).known, c.requires.tracked.mirrors.lists_are.tenants)

pub unwrap-item-requires : goal.unwrap-item-requires
unwrap-item-requires g c = has_copied c.head.result (has_item g.J.Job.label_of g.X.Chooser.seen c.args.journal.now.config (history c.args.journal.now) c.effective.result c.args.worker c.args.self.now c.requires.tracked c.effective.ensures.later c.effective.ensures.in_range c.requires.gets.free c.requires.gets.pooled c.requires.gets.some_waits c.unwrap-choice.result.tenant (option_copied c.head.result) (turn g (goal.at.unwrap-item-requires g c).After-unwrap-choice) (sym c.head.ensures))

pub now-estimate-requires-clause-kind : goal.now-estimate-requires-clause-kind
now-estimate-requires-clause-kind g c =
    let m = c.requires.tracked.mirrors in
    let x = turn g (goal.at.now-estimate-requires-clause-kind g c).After-unwrap-choice in
    omega (arith, kind_known g.J.Job.label_of c.args.journal.now.config (history c.args.journal.now) c.unwrap-choice.result.tenant c.args.self.now m x.known c.unwrap-item.result.now (sym c.head.ensures ∙ ap option_copied c.unwrap-item.ensures), m.costs_are.kinds)

pub returns : goal.returns
returns g c =
    let at = goal.at.returns g c in
    let m = c.requires.tracked.mirrors in
    let f = found g at.After-unwrap-choice in
    let C = c.args.journal.now.config in
    let P = history c.args.journal.now in
    let seen = g.X.Chooser.seen c.args.self.now.chooser in
    let is = c.requires.tracked.chooser_is in
    let time = time_is g at.After-unwrap-choice in
    let top = sym c.head.ensures ∙ ap option_copied c.unwrap-item.ensures in
    let costs : c.now-estimate.result ≡ estimate_at C P c.unwrap-choice.result.tenant c.unwrap-item.result.now.kind c.unwrap-item.result.now.declared = c.now-estimate.ensures (completed P) m.costs_are.learned ∙ estimate_is C P c.args.self.now.costs c.unwrap-choice.result.tenant c.unwrap-item.result.now.kind c.unwrap-item.result.now.declared m.costs_are in
    let are : WeightsAre C P c.weights-weights.result.now = subst (WeightsAre C P) (sym c.weights-weights.ensures.value) m.times_are.weights_are in
    rw (← c.effective.ensures.value) (record {
      asked = _;
      chosen = item_chosen g.J.Job.label_of g.X.Chooser.seen C P c.effective.result c.args.worker c.args.self.now c.requires.tracked c.effective.ensures.later c.effective.ensures.in_range c.requires.gets.free c.requires.gets.pooled c.requires.gets.some_waits c.unwrap-choice.result.tenant c.now-estimate.result c.unwrap-item.result.now (turns_with g.J.Job.label_of g.X.Chooser.seen C P c.effective.result c.args.worker c.args.self.now c.requires.tracked c.effective.ensures.later c.effective.ensures.in_range c.requires.gets.free c.requires.gets.pooled c.requires.gets.some_waits c.unwrap-choice.result.tenant _ f.keys time f.choice) top costs;
      tenant_is = refl;
      kind_is = refl;
      eligible = same_eligible C P c.effective.result c.args.worker seen _ m.legal is time c.unwrap-choice.result.is_eligible f.keys _ (chosen_keys g.J.Job.label_of g.X.Chooser.seen C P c.effective.result c.args.worker c.args.self.now c.requires.tracked c.effective.ensures.later c.effective.ensures.in_range c.requires.gets.free c.requires.gets.pooled c.requires.gets.some_waits c.unwrap-choice.result.tenant c.now-estimate.result c.unwrap-item.result.now _ f.keys time f.choice top costs) f.eligible;
      smaller = same_smaller C P c.effective.result c.args.worker seen _ m.legal is time c.weights-weights.result.now c.args.below are c.weights-weights.ensures.range c.unwrap-choice.result.has_smaller f.smaller;
    })
