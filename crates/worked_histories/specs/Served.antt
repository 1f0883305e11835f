-- Worked histories under 2dfq+ in which a tenant has no request any more, and counts in the rate of virtual time as
-- long as its start is above virtual time. The newest entry stands first.
use Rattle.std.specs.Prelude.{ℕ, ◌≡◌, [], ◌∷◌}
use Rattle.fq_model.specs.declared.config.Config.{Config}
use Rattle.fq_model.specs.declared.limits.Limits.TheVariants.{Text}
use Rattle.fq_model.specs.declared.config.Policy.{Policy}
use Rattle.fq_model.specs.declared.config.Estimator.TheVariants.{Declared}
use Rattle.fq_model.specs.declared.event.Act.TheVariants.{Submit, Take, Done, Weight, Workers}
use Rattle.fq_model.specs.History.{History}
use Rattle.fq_model.specs.Pace.{pace, served_weight}
use Rattle.worked_histories.specs.Examples.{entry}
use Rattle.worked_histories.specs.Paced.{config_for}

-- one worker, and two tenants of weight 1
unfoldable pub served_config : Policy → Config
served_config policy = config_for 1 policy

-- virtual time goes on over this weight after the last entry
abbrev pub GoesOnOver : Config → History → ℕ → Type 0
GoesOnOver C P weight = served_weight C P (pace C P) ≡ weight

-- ---- a tenant that leaves and comes back

-- a request of tenant 0 that is 4 long is done at 2, and one of tenant 1 runs from there on
unfoldable pub left_above : History
left_above =
    entry 10 2 (Take 0 1 20)
    ∷ entry 10 2 (Done 0 0 4)
    ∷ entry 10 0 (Take 0 0 4)
    ∷ entry 1 0 (Submit 1 1 0 20 2)
    ∷ entry 0 0 (Submit 0 0 0 4 1)
    ∷ []

-- tenant 0 comes back at this moment
unfoldable pub back_at : ℕ → History
unfolding left_above
back_at moment = entry 0 moment (Submit 2 0 0 5 3) ∷ left_above

-- or tenant 1 submits another request at 8
unfoldable pub come_to : History
unfolding left_above
come_to = entry 1 8 (Submit 2 1 0 5 3) ∷ left_above

-- and tenant 0 comes back at 10
unfoldable pub back_later : History
unfolding come_to
back_later = entry 0 10 (Submit 3 0 0 5 4) ∷ come_to

-- ---- two tenants that leave

-- one worker, and three tenants
unfoldable pub weighted_config : Policy → Config
weighted_config policy = record {
  limits = Text;
  workers = 1;
  weights = 1 ∷ 2 ∷ 1 ∷ [];
  kinds = 1;
  entries = 100;
  requests = 10;
  policy = policy;
  estimate = Declared;
  initial = 1000;
}

-- a request of tenant 1 that is 4 long is done at 4, one of tenant 0 that is 8 long is done at 8, and one of tenant 2
-- runs from there on
unfoldable pub two_left : History
two_left =
    entry 10 8 (Take 0 2 40)
    ∷ entry 10 8 (Done 0 0 8)
    ∷ entry 10 4 (Take 0 0 8)
    ∷ entry 10 4 (Done 0 1 8)
    ∷ entry 10 0 (Take 0 1 8)
    ∷ entry 2 0 (Submit 2 2 0 40 3)
    ∷ entry 1 0 (Submit 1 1 0 8 2)
    ∷ entry 0 0 (Submit 0 0 0 8 1)
    ∷ []

-- tenant 2 submits another request at 16
unfoldable pub one_passed : History
unfolding two_left
one_passed = entry 2 16 (Submit 3 2 0 5 4) ∷ two_left

-- and one more at 24
unfoldable pub both_passed : History
unfolding one_passed
both_passed = entry 2 24 (Submit 4 2 0 5 5) ∷ one_passed

-- ---- a refund

-- a request of tenant 0 that was estimated at 10 is done at 8 at this cost, and one of tenant 1 runs from there on
unfoldable pub ended_at_cost : ℕ → History
ended_at_cost cost =
    entry 10 8 (Take 0 1 20)
    ∷ entry 10 8 (Done 0 0 cost)
    ∷ entry 10 0 (Take 0 0 10)
    ∷ entry 1 0 (Submit 1 1 0 20 2)
    ∷ entry 0 0 (Submit 0 0 0 10 1)
    ∷ []

-- ---- a weight and workers that change

-- two workers
unfoldable pub changing_config : Policy → Config
changing_config policy = config_for 2 policy

-- one of them is in the pool; a request of tenant 0 that is 10 long is done at 8, one of tenant 1 runs from there on,
-- and tenant 0, which has no request any more, gets the weight 3 at 10
unfoldable pub heavier : History
heavier =
    entry 0 10 (Weight 0 3)
    ∷ entry 10 8 (Take 0 1 20)
    ∷ entry 10 8 (Done 0 0 10)
    ∷ entry 10 0 (Take 0 0 10)
    ∷ entry 1 0 (Submit 1 1 0 20 2)
    ∷ entry 0 0 (Submit 0 0 0 10 1)
    ∷ entry 0 0 (Workers 1)
    ∷ []

-- both are in the pool from 14 on
unfoldable pub more_workers : History
unfolding heavier
more_workers = entry 0 14 (Workers 2) ∷ heavier

-- and tenant 1 submits another request at 22
unfoldable pub heavier_passed : History
unfolding more_workers
heavier_passed = entry 1 22 (Submit 2 1 0 5 3) ∷ more_workers

-- ---- a lift

-- a request of tenant 0 that is 4 long is done at 2, and one of tenant 1 that is 6 long at 4
unfoldable pub before_lift : History
before_lift =
    entry 10 4 (Done 0 1 6)
    ∷ entry 10 2 (Take 0 1 6)
    ∷ entry 10 2 (Done 0 0 4)
    ∷ entry 10 0 (Take 0 0 4)
    ∷ entry 1 0 (Submit 2 1 0 6 3)
    ∷ entry 1 0 (Submit 1 1 0 6 2)
    ∷ entry 0 0 (Submit 0 0 0 4 1)
    ∷ []

-- the next request of tenant 1 is taken
unfoldable pub after_lift : History
unfolding before_lift
after_lift = entry 10 4 (Take 0 2 6) ∷ before_lift
