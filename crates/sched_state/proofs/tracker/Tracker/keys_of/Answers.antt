use Rattle.std.proofs.Common.{◌≡◌, arith, sym, ap, ◌∙◌}
use Rattle.std.proofs.lemmas.Int.{ints}
use Rattle.std.specs.Prelude.{option_copied}
use Rattle.fq_model.specs.History.{History}
use Rattle.fq_model.specs.Charge.{completed, estimate_at}
use Rattle.sched_state.specs.Tracker.{Mirrors}
use Rattle.sched_state.proofs.CostLemmas.{estimate_is}
use Rattle.fq_model.specs.Time.{last_moment}
use Rattle.sched_state.proofs.TrackerLemmas.{start_low, head_none, kind_known, estimate_low, head_keys}
use Rattle.sched_state.proofs.tracker.Tracker.keys_of.Given as given
use Rattle.sched_state.proofs.tracker.Tracker.keys_of.Goals as goal
use Rattle.sched_state.proofs.tracker.Tracker.keys_of.Goals.{After-now-estimate}

pub head-requires : goal.head-requires
head-requires g c = omega (arith, c.requires.tracks.tenant_known, c.requires.tracks.mirrors.lists_are.tenants)

pub returns-in_err-item : goal.returns-in_err-item
returns-in_err-item g c = λ P m. c.from_residual.ensures ∙ sym (head_none g.J.Job.label_of c.args.config.now P c.args.tenant c.args.self.now m c.requires.tracks.tenant_known (sym c.head.ensures ∙ ap option_copied c.in_err-item.was))

pub now-estimate-requires-clause-tenant : goal.now-estimate-requires-clause-tenant
now-estimate-requires-clause-tenant g c = omega (arith, c.requires.tracks.tenant_known, c.requires.tracks.mirrors.costs_are.tenants)

pub now-estimate-requires-clause-kind : goal.now-estimate-requires-clause-kind
now-estimate-requires-clause-kind g c =
    let m = c.requires.tracks.mirrors in
    omega (arith, kind_known g.J.Job.label_of c.args.config.now c.requires.past c.args.tenant c.args.self.now m c.requires.tracks.tenant_known c.in_ok-item.item.now (sym c.head.ensures ∙ ap option_copied c.in_ok-item.was), m.costs_are.kinds)

-- the answer of the estimator
estimated : (g : given.Over) (c : After-now-estimate g) (P : History) → Mirrors g.J.Job.label_of c.args.config.now P c.args.self.now → c.now-estimate.result ≡ estimate_at c.args.config.now P c.args.tenant c.in_ok-item.item.now.kind c.in_ok-item.item.now.declared
estimated g c P m = c.now-estimate.ensures (completed P) m.costs_are.learned ∙ estimate_is c.args.config.now P c.args.self.now.costs c.args.tenant c.in_ok-item.item.now.kind c.in_ok-item.item.now.declared m.costs_are

pub start-start-requires : goal.start-start-requires
start-start-requires g c = c.requires

pub keys-requires-clause-start_low : goal.keys-requires-clause-start_low
keys-requires-clause-start_low g c =
    let m = c.requires.tracks.mirrors in
    omega (arith, ints, c.start-start.ensures c.requires.past m, start_low g.J.Job.label_of c.args.config.now c.requires.past c.args.tenant c.args.self.now m c.requires.tracks.tenant_known)

pub keys-requires-clause-start_high : goal.keys-requires-clause-start_high
keys-requires-clause-start_high g c =
    let m = c.requires.tracks.mirrors in
    omega (arith, ints, c.start-start.ensures c.requires.past m, start_low g.J.Job.label_of c.args.config.now c.requires.past c.args.tenant c.args.self.now m c.requires.tracks.tenant_known)

pub keys-requires-clause-estimate_in_range : goal.keys-requires-clause-estimate_in_range
keys-requires-clause-estimate_in_range g c =
    let m = c.requires.tracks.mirrors in
    estimate_low g.J.Job.label_of c.args.config.now c.requires.past c.args.tenant c.args.self.now m c.requires.tracks.tenant_known c.in_ok-item.item.now (sym c.head.ensures ∙ ap option_copied c.in_ok-item.was) c.now-estimate.result (estimated g (goal.at.keys-requires-clause-estimate_in_range g c).After-now-estimate c.requires.past m)

pub keys-requires-clause-weight_positive : goal.keys-requires-clause-weight_positive
keys-requires-clause-weight_positive g c = c.weight-weight.ensures.low

pub keys-requires-clause-weight_in_range : goal.keys-requires-clause-weight_in_range
keys-requires-clause-weight_in_range g c = c.weight-weight.ensures.high

pub weight-weight-requires : goal.weight-weight-requires
weight-weight-requires g c = omega (arith, c.requires.tracks.mirrors.times_are.weights_are.tenants, c.requires.tracks.tenant_known)

pub returns : goal.returns
returns g c = λ P m. head_keys g.J.Job.label_of c.args.config.now P c.args.tenant c.args.self.now m c.requires.tracks.tenant_known c.in_ok-item.item.now (sym c.head.ensures ∙ ap option_copied c.in_ok-item.was) c.start-start.result c.now-estimate.result c.weight-weight.result c.keys.result (c.start-start.ensures P m) (estimated g (goal.at.returns g c).After-now-estimate P m) (c.weight-weight.ensures.value c.args.config.now P (last_moment P) m.times_are (c.requires.tracks.tenant_known)) c.keys.ensures
