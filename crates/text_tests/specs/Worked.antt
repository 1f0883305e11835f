-- The configuration of worked histories.
use Rattle.std.specs.Prelude.{ℕ, [], ◌∷◌}
use Rattle.fq_model.specs.declared.config.Config.{Config}
use Rattle.fq_model.specs.declared.limits.Limits.TheVariants.{Text}
use Rattle.fq_model.specs.declared.config.Policy.TheVariants.{TwoDfq}
use Rattle.fq_model.specs.declared.config.Estimator.TheVariants.{Declared}

-- this number of workers, and two tenants of weight 1, under 2dfq
abbrev pub worked_config : ℕ → Config
worked_config workers = record {
  limits = Text;
  workers = workers;
  weights = 1 ∷ 1 ∷ [];
  kinds = 1;
  entries = 100;
  requests = 10;
  policy = TwoDfq;
  estimate = Declared;
  initial = 1000;
}
