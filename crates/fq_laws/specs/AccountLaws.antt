-- Consequences of the definitions of charges, estimates, virtual time and tags.
use Rattle.std.specs.Prelude.{ℕ, ◌+◌, ◌-◌, ◌*◌, ◌<◌, ◌≤◌, ◌≡◌, ◌≢◌, ◌⊎◌, max, true, false, List, [], ◌∷◌, length, Some, None, pos}
use Rattle.std.specs.Int.{int_max}
use Rattle.vt_fixed.specs.Rounding.{advance_of, decay_of}
use Rattle.fq_model.specs.declared.config.Config.{Config}
use Rattle.fq_model.specs.declared.config.Policy.TheVariants.{TwoDfqPlus}
use Rattle.fq_model.specs.declared.event.Act.TheVariants.{Submit, Take}
use Rattle.fq_model.specs.declared.event.Entry.{Entry}
use Rattle.fq_model.specs.Limits.{InLimits, IsWithin}
use Rattle.fq_model.specs.History.{History, Request, request_at, head, pool_at, submits, last_use, is_taken, is_done}
use Rattle.fq_model.specs.Time.{open_requests, is_active, active_weight, last_moment, virtual_advance, clock_time, virtual_idle_time}
use Rattle.fq_model.specs.Pace.{clock_base, pace, virtual_time, tag_base}
use Rattle.fq_model.specs.Charge.{charge, final_cost, virtual_charge, net_charge, request_estimate}
use Rattle.fq_model.specs.Keys.{tag, start, HeadKeys, finish, eligible_key, turn_at, IsChoiceAt}
use Rattle.fq_model.specs.Rules.{IsLegal}
use Rattle.vt_fixed.specs.declared.limits.TheConstants.{GREATEST_COST}
use Rattle.fq_laws.specs.Words.{one_more, is_take, capped, rate_weight, greatest_length, greatest_rate}
use Rattle.fq_laws.specs.Changes.{charge_after, change_of, Changes, greatest_cost_from}

-- ---- charges

-- one entry on, the charge of each request is changed as the act says
abbrev pub ChargeSteps : Type 0
ChargeSteps =
    (C : Config) (P : History) (e : Entry) (r : ℕ) → IsLegal C (e ∷ P) → charge (e ∷ P) r ≡ charge_after P r e.act

-- the charge of a request that is done is its measured cost
abbrev pub FinalCharge : Type 0
FinalCharge = (C : Config) (P : History) (r cost : ℕ) → IsLegal C P → final_cost P r ≡ Some cost → charge P r ≡ cost

-- a request that runs is charged its greatest use at least
abbrev pub ChargeCoversUse : Type 0
ChargeCoversUse = (P : History) (r : ℕ) → is_taken P r ≡ true → is_done P r ≡ false → last_use P r ≤ charge P r

-- no charge is above the greatest cost
abbrev pub ChargeLimit : Type 0
ChargeLimit = (C : Config) (P : History) (r : ℕ) → InLimits C → IsLegal C P → charge P r ≤ GREATEST_COST

-- one entry on, the open requests and the charges of each tenant are changed as the act says
abbrev pub TenantSteps : Type 0
TenantSteps =
    (C : Config) (P : History) (e : Entry) (t : ℕ) → InLimits C → IsLegal C (e ∷ P)
    → Changes C P (e ∷ P) t (change_of C P t e.act)

-- the number of requests bounds a tenant's open requests, its virtual charge and its net charge
pub record TenantLimit (C : Config) (P : History) (t : ℕ) : Type 0 where
  pub open_limit : open_requests P t ≤ submits P
  pub virtual_limit : virtual_charge C P t ≤ submits P * greatest_length
  pub net_limit : net_charge P t ≤ submits P * GREATEST_COST

abbrev pub TenantLimits : Type 0
TenantLimits = (C : Config) (P : History) (t : ℕ) → InLimits C → IsLegal C P → TenantLimit C P t

-- ---- estimates

-- the estimate of a submitted request is a cost that it may have
abbrev pub EstimateRange : Type 0
EstimateRange =
    (C : Config) (P : History) (r : ℕ) (q : Request) → InLimits C → IsLegal C P → request_at P r ≡ Some q
    → IsWithin 1 GREATEST_COST (request_estimate C P q)

-- the greatest decayed cost is a running one: it begins with the initial value, and with each cost it decays once
abbrev pub GreatestRuns : Type 0
GreatestRuns =
    (initial : ℕ) → (greatest_cost_from initial [] ≡ initial)
    × ((cost : ℕ) (costs : List ℕ)
    → greatest_cost_from initial (cost ∷ costs) ≡ max cost (decay_of (greatest_cost_from initial costs)))

-- ---- time

-- under each policy but 2dfq+ virtual time is that of the clock, and so are the bases of tags
pub record IsByClock (C : Config) (P : History) : Type 0 where
  pub time_is : (m : ℕ) → virtual_time C P m ≡ clock_time C P m
  pub bases_are : (t : ℕ) → tag_base C P t ≡ clock_base C P t

abbrev pub TimeIsByClock : Type 0
TimeIsByClock = (C : Config) (P : History) → C.policy ≢ TwoDfqPlus → IsByClock C P

-- from one entry to the next virtual time makes one advance, over the weight between them, but not past the cap; an
-- entry does not move it, but for a Take under 2dfq+
pub record TimeStep (C : Config) (P : History) (e : Entry) : Type 0 where
  pub advances : virtual_time C P e.moment
      ≡ capped C.policy (pace C P).reached
      (virtual_time C P (last_moment P) + advance_of (e.moment - last_moment P) (pool_at C P) (rate_weight C P))
  pub stays : (C.policy ≢ TwoDfqPlus) ⊎ (is_take e.act ≡ false)
      → virtual_time C (e ∷ P) e.moment ≡ virtual_time C P e.moment

abbrev pub TimeSteps : Type 0
TimeSteps = (C : Config) (P : History) (e : Entry) → TimeStep C P e

-- this weight is that of the active tenants, under 2dfq+ too, where no other tenant starts above virtual time
abbrev pub RateIsOfActive : Type 0
RateIsOfActive =
    (C : Config) (P : History)
    → ((t : ℕ) → t < length C.weights → (is_active P t ≡ true) ⊎ (tag C P t ≤ virtual_time C P (last_moment P)))
    → rate_weight C P ≡ active_weight C P

-- and where active tenants have some weight, virtual time is never ahead of what this weight would make of it from the
-- last entry on
abbrev pub TimeIsNotAhead : Type 0
TimeIsNotAhead =
    (C : Config) (P : History) (m : ℕ) → 1 ≤ active_weight C P
    → virtual_time C P m ≤ capped C.policy (pace C P).reached (virtual_time C P (last_moment P) + virtual_advance C P m)

-- under 2dfq+ a Take of the request with these keys lifts virtual time to its eligible key, and the cap to its finish
pub record Lifts (C : Config) (P Q : History) (m i : ℕ) (k : HeadKeys) : Type 0 where
  pub time_is : pos (virtual_time C Q m) ≡ int_max (pos (virtual_time C P m)) (eligible_key (turn_at C P m i) k)
  pub cap_is : pos (pace C Q).reached ≡ int_max (pos (pace C P).reached) (finish k)

abbrev pub TakesLift : Type 0
TakesLift =
    (C : Config) (P : History) (who m i r estimate t : ℕ) (k : HeadKeys) → C.policy ≡ TwoDfqPlus
    → IsLegal C (one_more who m (Take i r estimate) P)
    → IsChoiceAt C P m i t k → Lifts C P (one_more who m (Take i r estimate) P) m i k

-- virtual time never falls: not from one moment to a later one, and not at an entry
pub record TimeKeepsUp (C : Config) (P : History) : Type 0 where
  pub by_moment : (m k : ℕ) → m ≤ k → virtual_time C P m ≤ virtual_time C P k
  pub by_entry : (e : Entry) → virtual_time C P e.moment ≤ virtual_time C (e ∷ P) e.moment

abbrev pub TimeRises : Type 0
TimeRises = (C : Config) (P : History) → TimeKeepsUp C P

-- nor does it pass the cap under 2dfq+
abbrev pub TimeIsCapped : Type 0
TimeIsCapped = (C : Config) (P : History) (m : ℕ) → C.policy ≡ TwoDfqPlus → virtual_time C P m ≤ (pace C P).reached

-- under the other policies it makes in a microsecond at most a unit for each of the most workers
abbrev pub TimeLimit : Type 0
TimeLimit =
    (C : Config) (P : History) (m : ℕ) → C.policy ≢ TwoDfqPlus → InLimits C → IsLegal C P → last_moment P ≤ m
    → virtual_time C P m ≤ m * greatest_rate

-- the virtual idle time of a tenant stays while the tenant is active, and else moves along with virtual time by the
-- clock
pub record IdleStep (C : Config) (P : History) (e : Entry) (t : ℕ) : Type 0 where
  pub stays : is_active P t ≡ true → virtual_idle_time C (e ∷ P) e.moment t ≡ virtual_idle_time C P (last_moment P) t
  pub moves : is_active P t ≡ false
      → virtual_idle_time C (e ∷ P) e.moment t + clock_time C P (last_moment P)
      ≡ virtual_idle_time C P (last_moment P) t + clock_time C (e ∷ P) e.moment

abbrev pub IdleSteps : Type 0
IdleSteps = (C : Config) (P : History) (e : Entry) (t : ℕ) → IdleStep C P e t

abbrev pub IdleLimit : Type 0
IdleLimit = (C : Config) (P : History) (m t : ℕ) → virtual_idle_time C P m t ≤ clock_time C P m

-- ---- tags

-- the base of a tag never falls
abbrev pub BaseRises : Type 0
BaseRises = (C : Config) (P : History) (e : Entry) (t : ℕ) → tag_base C P t ≤ tag_base C (e ∷ P) t

-- a Submit that finds none of its tenant's requests waiting raises the tenant's tag to virtual time
abbrev pub TagCatchesUp : Type 0
TagCatchesUp =
    (C : Config) (P : History) (e : Entry) (request tenant kind declared label : ℕ) → IsLegal C (e ∷ P)
    → e.act ≡ Submit request tenant kind declared label → head P tenant ≡ None
    → tag C (e ∷ P) tenant ≡ max (virtual_time C P e.moment) (tag C P tenant)

-- the number of requests and the moment bound a tenant's start
abbrev pub StartLimit : Type 0
StartLimit =
    (C : Config) (P : History) (m t : ℕ) → C.policy ≢ TwoDfqPlus → InLimits C → IsLegal C P → last_moment P ≤ m
    → start C P m t ≤ submits P * greatest_length + m * greatest_rate

-- under 2dfq+ the number of entries bounds the cap, and so virtual time, and each tenant's start
pub record IsPaceLow (C : Config) (P : History) : Type 0 where
  pub cap_low : (pace C P).reached ≤ length P * greatest_length
  pub starts_low : (m t : ℕ) → start C P m t ≤ length P * greatest_length

abbrev pub PaceLimit : Type 0
PaceLimit = (C : Config) (P : History) → C.policy ≡ TwoDfqPlus → InLimits C → IsLegal C P → IsPaceLow C P
