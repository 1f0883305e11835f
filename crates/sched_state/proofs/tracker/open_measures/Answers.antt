use Rattle.sched_state.proofs.KeyLemmas.{chooser_nil}
use Rattle.sched_state.proofs.tracker.open_measures.Goals as goal

pub returns-clause-costs : goal.returns-clause-costs
returns-clause-costs g c =
    let costs = c.in_ok-costs.ensures in
    record { rule = costs.rule; initial = costs.initial; tenants = costs.tenants; kinds = costs.kinds; learned = costs.empty }

pub returns-clause-chooser : goal.returns-clause-chooser
returns-clause-chooser g c = chooser_nil c.args.config.now (g.X.Chooser.seen c.in_ok-chooser.chooser) c.in_ok-chooser.ensures
