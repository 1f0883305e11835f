-- Worked histories that come to the bounds, the newest entry first. Three tenants have the weight 1. With two workers
-- no request is longer than 4 units, and with three no request is longer than 3. At the end stand histories in which a
-- request of 9 is withdrawn.
use Rattle.std.specs.Prelude.{[], ◌∷◌}
use Rattle.fq_model.specs.declared.config.Config.{Config}
use Rattle.fq_model.specs.declared.limits.Limits.TheVariants.{Text}
use Rattle.fq_model.specs.declared.config.Policy.TheVariants.{TwoDfqPlus}
use Rattle.fq_model.specs.declared.config.Estimator.TheVariants.{Declared}
use Rattle.fq_model.specs.declared.event.Act.TheVariants.{Submit, Take, Done, Withdraw}
use Rattle.fq_model.specs.History.{History}
use Rattle.worked_histories.specs.Examples.{entry}
use Rattle.worked_histories.specs.Paced.{config_for}

-- ---- two workers

unfoldable pub pair_config : Config
pair_config = record {
  limits = Text;
  workers = 2;
  weights = 1 ∷ 1 ∷ 1 ∷ [];
  kinds = 1;
  entries = 100;
  requests = 10;
  policy = TwoDfqPlus;
  estimate = Declared;
  initial = 4;
}

-- tenant 0 is taken by both workers, and its first request turns out to be long; so its third one starts late
unfoldable pub most_history : History
most_history =
    entry 11 0 (Take 1 2 4)
    ∷ entry 0 0 (Submit 2 0 0 4 3)
    ∷ entry 11 0 (Done 1 0 4)
    ∷ entry 10 0 (Take 0 1 1)
    ∷ entry 0 0 (Submit 1 0 0 1 2)
    ∷ entry 11 0 (Take 1 0 1)
    ∷ entry 0 0 (Submit 0 0 0 1 1)
    ∷ []

-- worker 0 runs a request of tenant 1 while worker 1 takes three of tenant 2, the last of which starts late
unfoldable pub late_taken : History
late_taken =
    entry 11 0 (Take 1 3 4)
    ∷ entry 2 0 (Submit 3 2 0 4 4)
    ∷ entry 11 0 (Done 1 2 2)
    ∷ entry 11 0 (Take 1 2 2)
    ∷ entry 2 0 (Submit 2 2 0 2 3)
    ∷ entry 11 0 (Done 1 1 4)
    ∷ entry 11 0 (Take 1 1 2)
    ∷ entry 2 0 (Submit 1 2 0 2 2)
    ∷ entry 10 0 (Take 0 0 4)
    ∷ entry 1 0 (Submit 0 1 0 4 1)
    ∷ []

-- tenant 1 then waits
unfoldable pub cap_history : History
unfolding late_taken
cap_history = entry 1 0 (Submit 4 1 0 4 5) ∷ late_taken

-- or tenant 0 comes before it, and is taken by both workers, while the request of tenant 1 turns out to be short; time
-- passes, tenant 0 submits another request, and its running requests turn out to be long
unfoldable pub lead_history : History
unfolding late_taken
lead_history =
    entry 10 9 (Done 0 5 4)
    ∷ entry 11 9 (Done 1 4 4)
    ∷ entry 0 9 (Submit 7 0 0 1 8)
    ∷ entry 10 3 (Take 0 5 1)
    ∷ entry 11 0 (Take 1 4 1)
    ∷ entry 11 0 (Done 1 3 4)
    ∷ entry 10 0 (Done 0 0 2)
    ∷ entry 1 0 (Submit 6 1 0 4 7)
    ∷ entry 0 0 (Submit 5 0 0 1 6)
    ∷ entry 0 0 (Submit 4 0 0 1 5)
    ∷ late_taken

-- ---- three workers

unfoldable pub three_config : Config
three_config = record {
  limits = Text;
  workers = 3;
  weights = 1 ∷ 1 ∷ 1 ∷ [];
  kinds = 1;
  entries = 100;
  requests = 10;
  policy = TwoDfqPlus;
  estimate = Declared;
  initial = 3;
}

-- workers 0 and 1 run requests of tenant 1 while worker 2 takes three of tenant 2, the last of which starts late; then
-- tenant 1 waits
unfoldable pub three_cap_history : History
three_cap_history =
    entry 1 0 (Submit 5 1 0 3 6)
    ∷ entry 12 0 (Take 2 4 3)
    ∷ entry 2 0 (Submit 4 2 0 3 5)
    ∷ entry 12 0 (Done 2 3 3)
    ∷ entry 12 0 (Take 2 3 3)
    ∷ entry 2 0 (Submit 3 2 0 3 4)
    ∷ entry 12 0 (Done 2 2 3)
    ∷ entry 12 0 (Take 2 2 3)
    ∷ entry 2 0 (Submit 2 2 0 3 3)
    ∷ entry 11 0 (Take 1 1 3)
    ∷ entry 10 0 (Take 0 0 3)
    ∷ entry 1 0 (Submit 1 1 0 3 2)
    ∷ entry 1 0 (Submit 0 1 0 3 1)
    ∷ []

-- worker 0 runs a request of tenant 1, worker 1 one of tenant 0, and worker 2 takes three of tenant 2, the last of
-- which starts late; tenants 0 and 1 then wait
unfoldable pub three_begun : History
three_begun =
    entry 1 0 (Submit 8 1 0 3 9)
    ∷ entry 0 0 (Submit 7 0 0 1 8)
    ∷ entry 0 0 (Submit 6 0 0 1 7)
    ∷ entry 0 0 (Submit 5 0 0 1 6)
    ∷ entry 12 0 (Take 2 4 3)
    ∷ entry 2 0 (Submit 4 2 0 3 5)
    ∷ entry 12 0 (Done 2 3 2)
    ∷ entry 12 0 (Take 2 3 3)
    ∷ entry 2 0 (Submit 3 2 0 3 4)
    ∷ entry 12 0 (Done 2 2 3)
    ∷ entry 12 0 (Take 2 2 3)
    ∷ entry 2 0 (Submit 2 2 0 3 3)
    ∷ entry 11 0 (Take 1 1 3)
    ∷ entry 0 0 (Submit 1 0 0 3 2)
    ∷ entry 10 0 (Take 0 0 3)
    ∷ entry 1 0 (Submit 0 1 0 3 1)
    ∷ []

-- the running requests of both cost nothing; all workers take a request of tenant 0; time passes, tenant 0 submits
-- another request, and its running requests turn out to be long
unfoldable pub three_lead_history : History
unfolding three_begun
three_lead_history =
    entry 12 5 (Done 2 7 3)
    ∷ entry 11 5 (Done 1 6 3)
    ∷ entry 10 5 (Done 0 5 3)
    ∷ entry 0 5 (Submit 9 0 0 1 10)
    ∷ entry 12 0 (Take 2 7 1)
    ∷ entry 11 0 (Take 1 6 1)
    ∷ entry 10 0 (Take 0 5 1)
    ∷ entry 12 0 (Done 2 4 3)
    ∷ entry 11 0 (Done 1 1 0)
    ∷ entry 10 0 (Done 0 0 0)
    ∷ three_begun

-- ---- a withdrawn request

-- one worker, and two tenants of weight 1
unfoldable pub single_config : Config
single_config = config_for 1 TwoDfqPlus

-- a long request of tenant 1 is withdrawn before the Take
unfoldable pub withdrawn_history : History
withdrawn_history =
    entry 10 0 (Take 0 0 1)
    ∷ entry 1 0 (Submit 2 1 0 1 3)
    ∷ entry 1 0 (Withdraw 1)
    ∷ entry 1 0 (Submit 1 1 0 9 2)
    ∷ entry 0 0 (Submit 0 0 0 1 1)
    ∷ []

-- or after it
unfoldable pub waited_history : History
waited_history =
    entry 1 0 (Withdraw 1)
    ∷ entry 10 0 (Take 0 0 1)
    ∷ entry 1 0 (Submit 2 1 0 1 3)
    ∷ entry 1 0 (Submit 1 1 0 9 2)
    ∷ entry 0 0 (Submit 0 0 0 1 1)
    ∷ []
