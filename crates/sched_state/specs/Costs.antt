-- The estimator of a history.
use Rattle.std.specs.Prelude.{◌≡◌, length}
use Rattle.fq_model.specs.declared.config.Config.{Config}
use Rattle.fq_model.specs.History.{History}
use Rattle.fq_model.specs.Charge.{completed}
use Rattle.cost_estimate.specs.declared.any.AnyCost.{AnyCost}
use Rattle.cost_estimate.specs.AnyCost.{rule_of, initial_of, tenants_of, kinds_of, StandsFor}

-- the estimator is the configuration's, and has learned the completed requests
pub record CostsAre (C : Config) (P : History) (costs : AnyCost) : Type 0 where
  pub rule : rule_of costs ≡ C.estimate
  pub initial : initial_of costs ≡ C.initial
  pub tenants : tenants_of costs ≡ length C.weights
  pub kinds : kinds_of costs ≡ C.kinds
  pub learned : StandsFor costs (completed P)
