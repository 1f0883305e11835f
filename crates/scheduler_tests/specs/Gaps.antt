-- The configuration of the tests of gaps.
use Rattle.std.specs.Prelude.{ℕ, [], ◌∷◌}
use Rattle.fq_model.specs.declared.config.Config.{Config}
use Rattle.fq_model.specs.declared.limits.Limits.TheVariants.{Text}
use Rattle.fq_model.specs.declared.config.Policy.{Policy}
use Rattle.fq_model.specs.declared.config.Estimator.{Estimator}

-- this number of workers, and two tenants, the first of weight 1
abbrev pub gap_config : ℕ → ℕ → Policy → Estimator → Config
gap_config workers weight policy estimate = record {
  limits = Text;
  workers = workers;
  weights = 1 ∷ weight ∷ [];
  kinds = 2;
  entries = 100;
  requests = 10;
  policy = policy;
  estimate = estimate;
  initial = 990;
}
