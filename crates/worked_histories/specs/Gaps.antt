-- Worked histories, the newest entry first, whose gap is found by hand: each shows that one part of the bound is
-- needed. The numbers of an act are in the order of its fields: Submit request tenant kind declared label, Take
-- worker request estimate, Done worker request cost, Weight tenant weight.
use Rattle.std.specs.Prelude.{ℕ, [], ◌∷◌, pos}
use Rattle.fq_model.specs.declared.config.Config.{Config}
use Rattle.fq_model.specs.declared.limits.Limits.TheVariants.{Text}
use Rattle.fq_model.specs.declared.config.Policy.TheVariants.{Wfq, Wf2q, TwoDfq}
use Rattle.fq_model.specs.declared.config.Estimator.TheVariants.{Declared}
use Rattle.fq_model.specs.declared.event.Act.TheVariants.{Submit, Take, Done, Weight}
use Rattle.fq_model.specs.History.{History}
use Rattle.fq_model.specs.Gap.{TagGap}
use Rattle.worked_histories.specs.Examples.{entry, units}

-- a gap of this largest difference and this bound, in units
abbrev pub gap_of : ℕ → ℕ → TagGap
gap_of largest bound = record { largest = pos (units largest); bound = pos (units bound) }

-- ---- two lengths

-- two workers, and two tenants of weight 1, under 2dfq
unfoldable pub stagger_config : Config
stagger_config = record {
  limits = Text;
  workers = 2;
  weights = 1 ∷ 1 ∷ [];
  kinds = 1;
  entries = 100;
  requests = 10;
  policy = TwoDfq;
  estimate = Declared;
  initial = 1000;
}

-- worker 1 takes requests of tenant 0 that are 8 long, one at 0 and one at 4, while one of tenant 1 runs that is 6 long
unfoldable pub stagger_history : History
stagger_history =
    entry 11 4 (Take 1 1 8)
    ∷ entry 11 4 (Done 1 0 8)
    ∷ entry 11 0 (Take 1 0 8)
    ∷ entry 10 0 (Take 0 3 6)
    ∷ entry 1 0 (Submit 4 1 0 1 5)
    ∷ entry 1 0 (Submit 3 1 0 6 4)
    ∷ entry 0 0 (Submit 2 0 0 8 3)
    ∷ entry 0 0 (Submit 1 0 0 8 2)
    ∷ entry 0 0 (Submit 0 0 0 8 1)
    ∷ []

-- ---- where the run begins

-- one worker, and two tenants of weight 1, under wf2q
unfoldable pub begun_config : Config
begun_config = record {
  limits = Text;
  workers = 1;
  weights = 1 ∷ 1 ∷ [];
  kinds = 1;
  entries = 100;
  requests = 10;
  policy = Wf2q;
  estimate = Declared;
  initial = 1000;
}

-- two requests of tenant 0 are taken, and then tenant 1 submits one
unfoldable pub begun_history : History
begun_history =
    entry 1 0 (Submit 3 1 0 1 4)
    ∷ entry 10 0 (Take 0 1 10)
    ∷ entry 10 0 (Done 0 0 10)
    ∷ entry 10 0 (Take 0 0 10)
    ∷ entry 0 0 (Submit 2 0 0 10 3)
    ∷ entry 0 0 (Submit 1 0 0 10 2)
    ∷ entry 0 0 (Submit 0 0 0 10 1)
    ∷ []

-- ---- both tenants, at each weight

-- two workers, and tenants of the weights 1 and 2, under wfq
unfoldable pub weights_config : Config
weights_config = record {
  limits = Text;
  workers = 2;
  weights = 1 ∷ 2 ∷ [];
  kinds = 1;
  entries = 100;
  requests = 10;
  policy = Wfq;
  estimate = Declared;
  initial = 1000;
}

-- two requests of tenant 0 are taken, while tenant 1 has the weight 1
unfoldable pub weights_history : History
weights_history =
    entry 1 0 (Weight 1 2)
    ∷ entry 11 0 (Take 1 1 4)
    ∷ entry 10 0 (Take 0 0 4)
    ∷ entry 1 0 (Weight 1 1)
    ∷ entry 1 0 (Submit 3 1 0 10 4)
    ∷ entry 0 0 (Submit 2 0 0 4 3)
    ∷ entry 0 0 (Submit 1 0 0 4 2)
    ∷ entry 0 0 (Submit 0 0 0 4 1)
    ∷ []

-- ---- costs that are not known

-- one worker, and two tenants of weight 1, under wfq
unfoldable pub doubt_config : Config
doubt_config = record {
  limits = Text;
  workers = 1;
  weights = 1 ∷ 1 ∷ [];
  kinds = 1;
  entries = 100;
  requests = 10;
  policy = Wfq;
  estimate = Declared;
  initial = 1000;
}

-- the head of tenant 1 is 4 long; tenant 0 has requests of the estimate 1, of which the fourth turns out to be 4 long
unfoldable pub doubt_history : History
doubt_history =
    entry 10 7 (Done 0 3 4)
    ∷ entry 10 3 (Take 0 3 1)
    ∷ entry 10 3 (Done 0 2 1)
    ∷ entry 10 2 (Take 0 2 1)
    ∷ entry 10 2 (Done 0 1 1)
    ∷ entry 10 1 (Take 0 1 1)
    ∷ entry 10 1 (Done 0 0 1)
    ∷ entry 10 0 (Take 0 0 1)
    ∷ entry 1 0 (Submit 5 1 0 4 6)
    ∷ entry 0 0 (Submit 4 0 0 1 5)
    ∷ entry 0 0 (Submit 3 0 0 1 4)
    ∷ entry 0 0 (Submit 2 0 0 1 3)
    ∷ entry 0 0 (Submit 1 0 0 1 2)
    ∷ entry 0 0 (Submit 0 0 0 1 1)
    ∷ []

-- ---- requests that cost nothing

-- tenant 1 has a head that is 2 long
unfoldable pub free_begun : History
free_begun =
    entry 1 0 (Submit 3 1 0 2 4)
    ∷ entry 0 0 (Submit 2 0 0 1 3)
    ∷ entry 0 0 (Submit 1 0 0 1 2)
    ∷ entry 0 0 (Submit 0 0 0 1 1)
    ∷ []

-- and each request of tenant 0 turns out to cost nothing
unfoldable pub free_newer : History
free_newer =
    entry 10 0 (Done 0 2 0)
    ∷ entry 10 0 (Take 0 2 1)
    ∷ entry 10 0 (Done 0 1 0)
    ∷ entry 10 0 (Take 0 1 1)
    ∷ entry 10 0 (Done 0 0 0)
    ∷ entry 10 0 (Take 0 0 1)
    ∷ []
