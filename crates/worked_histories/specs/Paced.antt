-- Worked histories under 2dfq+, in which virtual time is lifted or capped. The same calls are legal under 2dfq. The
-- newest entry stands first.
use Rattle.std.specs.Prelude.{ℕ, ◌≡◌, [], ◌∷◌}
use Rattle.fq_model.specs.declared.config.Config.{Config}
use Rattle.fq_model.specs.declared.limits.Limits.TheVariants.{Text}
use Rattle.fq_model.specs.declared.config.Policy.{Policy}
use Rattle.fq_model.specs.declared.config.Policy.TheVariants.{TwoDfq, TwoDfqPlus}
use Rattle.fq_model.specs.declared.config.Estimator.TheVariants.{Declared}
use Rattle.fq_model.specs.declared.event.Act.TheVariants.{Submit, Take, Done, Weight, Workers}
use Rattle.fq_model.specs.History.{History}
use Rattle.fq_model.specs.Pace.{pace}
use Rattle.fq_model.specs.Rules.{IsLegal}
use Rattle.worked_histories.specs.Examples.{entry, units}

-- this number of workers, and two tenants of weight 1
abbrev pub config_for : ℕ → Policy → Config
config_for workers policy = record {
  limits = Text;
  workers = workers;
  weights = 1 ∷ 1 ∷ [];
  kinds = 1;
  entries = 100;
  requests = 10;
  policy = policy;
  estimate = Declared;
  initial = 1000;
}

-- under 2dfq+ virtual time and the cap are these numbers of units just after the last entry
pub record PaceIs (C : Config) (P : History) (time cap : ℕ) : Type 0 where
  pub time_is : (pace C P).now ≡ units time
  pub cap_is : (pace C P).reached ≡ units cap

-- the history is legal under both policies
pub record IsLegalUnderBoth (C : Policy → Config) (P : History) : Type 0 where
  pub under_2dfq_plus : IsLegal (C TwoDfqPlus) P
  pub under_2dfq : IsLegal (C TwoDfq) P

-- ---- lift

-- two workers
unfoldable pub lift_config : Policy → Config
lift_config policy = config_for 2 policy

-- both take a request of tenant 0, which is there alone
unfoldable pub lift_taken : History
lift_taken =
    entry 11 0 (Take 1 1 4)
    ∷ entry 10 0 (Take 0 0 4)
    ∷ entry 0 0 (Submit 2 0 0 4 3)
    ∷ entry 0 0 (Submit 1 0 0 4 2)
    ∷ entry 0 0 (Submit 0 0 0 4 1)
    ∷ []

-- tenant 1 comes, worker 0 takes its first request, and worker 1 is free
unfoldable pub lift_history : History
unfolding lift_taken
lift_history =
    entry 11 4 (Done 1 1 4)
    ∷ entry 10 4 (Take 0 3 6)
    ∷ entry 10 4 (Done 0 0 4)
    ∷ entry 1 0 (Submit 4 1 0 5 5)
    ∷ entry 1 0 (Submit 3 1 0 6 4)
    ∷ lift_taken

-- ---- cap

-- one worker
unfoldable pub cap_config : Policy → Config
cap_config policy = config_for 1 policy

-- a request of tenant 0 is charged 1 though it ran for 10, and then tenant 1 comes
unfoldable pub cap_history : History
cap_history =
    entry 1 10 (Submit 2 1 0 2 3)
    ∷ entry 10 10 (Done 0 0 1)
    ∷ entry 10 0 (Take 0 0 1)
    ∷ entry 0 0 (Submit 1 0 0 3 2)
    ∷ entry 0 0 (Submit 0 0 0 1 1)
    ∷ []

-- ---- cap and lift

-- one worker
unfoldable pub both_config : Policy → Config
both_config policy = config_for 1 policy

-- a request of tenant 0 that was estimated at 1 has cost 5 after 10
unfoldable pub both_ended : History
both_ended =
    entry 10 10 (Done 0 0 5)
    ∷ entry 10 0 (Take 0 0 1)
    ∷ entry 0 0 (Submit 2 0 0 3 3)
    ∷ entry 0 0 (Submit 1 0 0 3 2)
    ∷ entry 0 0 (Submit 0 0 0 1 1)
    ∷ []

-- its next one is taken at that moment
unfoldable pub both_taken : History
unfolding both_ended
both_taken = entry 10 10 (Take 0 1 3) ∷ both_ended

-- then tenant 1 comes, and the worker is free again at 20
unfoldable pub both_history : History
unfolding both_taken
both_history = entry 10 20 (Done 0 1 3) ∷ entry 1 10 (Submit 3 1 0 2 4) ∷ both_taken

-- ---- a refund

-- one worker
unfoldable pub refunded_config : Policy → Config
refunded_config policy = config_for 1 policy

-- a request of tenant 0 that was estimated at 10 has cost 1, and the next one, which cost 1 too, ran from 1 to 9
unfoldable pub refunded_ended : History
refunded_ended =
    entry 10 9 (Done 0 1 1)
    ∷ entry 10 1 (Take 0 1 1)
    ∷ entry 10 1 (Done 0 0 1)
    ∷ entry 10 0 (Take 0 0 10)
    ∷ entry 0 0 (Submit 2 0 0 10 3)
    ∷ entry 0 0 (Submit 1 0 0 1 2)
    ∷ entry 0 0 (Submit 0 0 0 10 1)
    ∷ []

-- tenant 1 comes at 12
unfoldable pub refunded_history : History
unfolding refunded_ended
refunded_history = entry 1 12 (Submit 3 1 0 1 4) ∷ refunded_ended

-- ---- weights and workers that change

-- two workers at the opening
unfoldable pub changes_config : Policy → Config
changes_config policy = config_for 2 policy

-- tenant 0 gets the weight 2 between the Takes of its first two requests
unfoldable pub changes_taken : History
changes_taken =
    entry 11 0 (Take 1 1 8)
    ∷ entry 0 0 (Weight 0 2)
    ∷ entry 10 0 (Take 0 0 8)
    ∷ entry 0 0 (Submit 2 0 0 4 3)
    ∷ entry 0 0 (Submit 1 0 0 8 2)
    ∷ entry 0 0 (Submit 0 0 0 8 1)
    ∷ []

-- one worker from moment 0 on; tenant 1 comes when both requests have ended
unfoldable pub changes_history : History
unfolding changes_taken
changes_history =
    entry 1 14 (Submit 3 1 0 3 4)
    ∷ entry 11 14 (Done 1 1 8)
    ∷ entry 10 8 (Done 0 0 8)
    ∷ entry 0 0 (Workers 1)
    ∷ changes_taken
