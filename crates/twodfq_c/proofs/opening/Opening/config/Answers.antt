use Rattle.std.proofs.Common.{refl}
use Rattle.fq_model.specs.declared.config.Config.{Config}
use Rattle.twodfq_c.specs.Opening.{IsConfigOf, limits_of}
use Rattle.twodfq_c.proofs.opening.Opening.config.Goals as goal

-- the configuration that it would be, were all weights read
pub returns-in-Some-crowd_fault-clause-why : goal.returns-in-Some-crowd_fault-clause-why
returns-in-Some-crowd_fault-clause-why c =
    let o = c.args.self.now in
    let config : Config = record { limits = limits_of o; workers = o.workers; weights = c.args.weights.now; kinds = o.kinds; entries = o.entries; requests = o.requests; policy = c.in-Some.policy; estimate = c.in-Some-estimator_of.estimate; initial = o.initial } in
    let is : IsConfigOf o c.args.weights.now config = record { limits = refl; workers = refl; weights_are = refl; kinds = refl; entries = refl; requests = refl; policy_is = c.in-Some.ensures.some; estimate_is = c.in-Some-estimator_of.ensures.some; initial = refl } in
    (config, is, c.in-Some-crowd_fault.ensures.some config is)
