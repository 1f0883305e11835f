-- Opening a scheduler from plain numbers.
use Rattle.std.specs.Prelude.{◌≡◌, ◌==◌, ◌||◌, ℕ, nat_le, nat_lt, if◌then◌else◌, List, Option, Some, None, IsSome, Result, Ok, Err}
use Rattle.fq_model.specs.declared.config.Config.{Config}
use Rattle.fq_model.specs.declared.config.Policy.{Policy}
use Rattle.fq_model.specs.declared.config.Policy.TheVariants as policy
use Rattle.fq_model.specs.declared.config.Estimator.{Estimator}
use Rattle.fq_model.specs.declared.config.Estimator.TheVariants as estimator
use Rattle.fq_model.specs.declared.config.ConfigFault.{ConfigFault}
use Rattle.fq_model.specs.declared.config.ConfigFault.TheVariants as fault
use Rattle.fq_model.specs.declared.limits.Limits.{Limits}
use Rattle.fq_model.specs.declared.limits.Limits.TheVariants.{Whole, Long}
use Rattle.fq_model.specs.Limits.{InLimits, config_fault}
use Rattle.sched_state.specs.Scheduler.{opened_keeping}
use Rattle.twodfq_c.specs.declared.opening.Opening.{Opening}
use Rattle.twodfq_c.specs.declared.opening.Refusal.{Refusal}
use Rattle.twodfq_c.specs.declared.opening.Refusal.TheVariants as refusal
use Rattle.twodfq_c.specs.Held.{Held}

abbrev pub policy_number : Policy → ℕ
policy_number policy.Wfq = 0
policy_number policy.Wf2q = 1
policy_number policy.Msf2q = 2
policy_number policy.TwoDfq = 3
policy_number policy.TwoDfqPlus = 4

abbrev pub estimator_number : Estimator → ℕ
estimator_number estimator.Declared = 0
estimator_number estimator.Recent = 1
estimator_number estimator.Pessimistic = 2

abbrev pub fault_status : ConfigFault → ℕ
fault_status (fault.Workers workers most) = 16
fault_status (fault.Tenants tenants most) = 17
fault_status (fault.Weight tenant most) = 18
fault_status (fault.Kinds kinds) = 19
fault_status (fault.Pairs pairs most) = 20
fault_status (fault.Entries entries most) = 21
fault_status (fault.Requests requests most) = 22
fault_status (fault.Initial initial) = 23

abbrev pub status : Result (Unit {0}) Refusal → ℕ
status (Ok opened) = 0
status (Err refusal.AlreadyOpen) = 1
status (Err refusal.Policy) = 2
status (Err refusal.Estimator) = 3
status (Err refusal.NoMemory) = 4
status (Err (refusal.Config why)) = fault_status why

-- the widest limits, for a history that is kept whole or for a long one
abbrev pub limits_of : Opening → Limits
limits_of o = if o.keep == 0 then Whole else Long

-- the configuration of these numbers and these weights
pub record IsConfigOf (o : Opening) (weights : List ℕ) (c : Config) : Type 0 where
  pub limits : c.limits ≡ limits_of o
  pub workers : c.workers ≡ o.workers
  pub weights_are : c.weights ≡ weights
  pub kinds : c.kinds ≡ o.kinds
  pub entries : c.entries ≡ o.entries
  pub requests : c.requests ≡ o.requests
  pub policy_is : policy_number c.policy ≡ o.policy
  pub estimate_is : estimator_number c.estimate ≡ o.estimate
  pub initial : c.initial ≡ o.initial

-- the first number that names nothing: no policy has it, or no estimator
abbrev pub unnamed_number : Opening → Option Refusal
unnamed_number o =
    if nat_le 5 o.policy then Some refusal.Policy
    else if nat_le 3 o.estimate then Some refusal.Estimator
    else None

-- why nothing is opened from the numbers: the first that names nothing; else the configuration's first fault, or memory
-- was wanting
abbrev pub WhyRefused : Opening → List ℕ → Refusal → Type 0
WhyRefused o weights (refusal.Config why) = (c : Config) × IsConfigOf o weights c × (config_fault c ≡ Some why)
WhyRefused o weights refusal.NoMemory = unnamed_number o ≡ None
WhyRefused o weights why = unnamed_number o ≡ Some why

-- how many of the last entries are kept: as many as are asked for, or all
abbrev pub kept_of : Opening → ℕ
kept_of o = if o.keep == 0 || nat_lt o.entries o.keep then o.entries else o.keep

-- a scheduler of this configuration, which has no fault, with no entries, which keeps its last `kept_of o`
pub record HoldsOpened (o : Opening) (weights : List ℕ) (new : Held) : Type 0 where
  pub config : Config
  pub config_is : IsConfigOf o weights config
  pub in_limits : InLimits config
  pub faultless : config_fault config ≡ None
  pub held : new ≡ Some (opened_keeping (kept_of o) config)

-- why no scheduler was opened: one is there; else it is the numbers
abbrev pub WhyNotOpened : Held → Opening → List ℕ → Refusal → Type 0
WhyNotOpened old o weights refusal.AlreadyOpen = IsSome old
WhyNotOpened old o weights why = (old ≡ None) × WhyRefused o weights why

-- where no scheduler was held, such a scheduler; or else the old state, for a cause
abbrev pub OpensWith : Held → Opening → List ℕ → Result (Unit {0}) Refusal → Held → Type 0
OpensWith old o weights (Ok opened) new = (old ≡ None) × HoldsOpened o weights new
OpensWith old o weights (Err why) new = (new ≡ old) × WhyNotOpened old o weights why

-- so, and the status says which
pub record Opens (old : Held) (o : Opening) (weights : List ℕ) (given : ℕ) (new : Held) : Type 0 where
  pub outcome : Result (Unit {0}) Refusal
  pub told : given ≡ status outcome
  pub opens : OpensWith old o weights outcome new
