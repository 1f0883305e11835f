-- The configuration that tests begin with.
use Rattle.std.specs.Prelude.{ℕ, List}
use Rattle.fq_model.specs.declared.config.Config.{Config}
use Rattle.fq_model.specs.declared.limits.Limits.TheVariants.{Text}
use Rattle.fq_model.specs.declared.config.Policy.TheVariants.{TwoDfq}
use Rattle.fq_model.specs.declared.config.Estimator.TheVariants.{Declared}

-- tenants of these weights and one worker, under 2dfq and with costs as declared
abbrev pub sample_config : List ℕ → Config
sample_config weights = record {
  limits = Text;
  workers = 1;
  weights = weights;
  kinds = 1;
  entries = 100;
  requests = 10;
  policy = TwoDfq;
  estimate = Declared;
  initial = 1000;
}
