-- A history that gives a weight above those of texts.
use Rattle.std.specs.Prelude.{[], ◌∷◌}
use Rattle.fq_model.specs.declared.config.Config.{Config}
use Rattle.fq_model.specs.declared.config.Estimator.TheVariants.{Declared}
use Rattle.fq_model.specs.declared.config.Policy.TheVariants.{TwoDfq}
use Rattle.fq_model.specs.declared.event.Act.TheVariants.{Weight}
use Rattle.fq_model.specs.declared.limits.Limits.TheVariants.{Whole}
use Rattle.fq_model.specs.History.{History}

-- one worker, and one tenant of weight 1, under the widest limits
unfoldable pub raised_config : Config
raised_config = record {
  limits = Whole;
  workers = 1;
  weights = 1 ∷ [];
  kinds = 1;
  entries = 10;
  requests = 1;
  policy = TwoDfq;
  estimate = Declared;
  initial = 1000;
}

-- tenant 0 is given the weight 1001
unfoldable pub raised_history : History
raised_history = record { who = 0; moment = 0; act = Weight 0 1001 } ∷ []
