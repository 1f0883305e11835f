-- The clock and the idle times of a history.
use Rattle.std.specs.Prelude.{ℕ, ℤ, ◌<◌, ◌≡◌, ◌≢◌, Bool, false, not, ◌&&◌, nat_lt, if◌then◌else◌, List, Option, Some, None, ◌∷◌, length, slice_index, pos, ◌≤ℤ◌}
use Rattle.fq_model.specs.declared.config.Config.{Config}
use Rattle.fq_model.specs.declared.config.Policy.{Policy}
use Rattle.fq_model.specs.declared.config.Policy.TheVariants.{TwoDfqPlus}
use Rattle.fq_model.specs.declared.event.Act.TheVariants.{Take}
use Rattle.fq_model.specs.declared.event.Entry.{Entry}
use Rattle.fq_model.specs.Limits.{InLimits}
use Rattle.fq_model.specs.History.{History, pool_at, weight_at}
use Rattle.fq_model.specs.Time.{open_requests, is_active, last_moment, virtual_idle_time}
use Rattle.fq_model.specs.Pace.{pace, virtual_time}
use Rattle.fq_model.specs.Keys.{HeadKeys, tag, IsChoiceAt}
use Rattle.fq_model.specs.Rules.{IsLegal}
use Rattle.fq_laws.specs.Words.{rate_weight}
use Rattle.fq_laws.specs.Steps.{Ends}
use Rattle.winner_tree.specs.declared.key.Key.{Key}
use Rattle.winner_tree.specs.Order.{key_of}
use Rattle.virtual_clock.specs.declared.idles.Idle.{Idle}
use Rattle.virtual_clock.specs.declared.times.Times.{Times}
use Rattle.virtual_clock.specs.Clock.{ClockView, cap_for}
use Rattle.virtual_clock.specs.Idles.{idle_of, total_at}
use Rattle.virtual_clock.specs.Lingering.{key_for}

-- ---- at a moment that is not before the last entry

-- the clock has come to the moment m, and shows its virtual time
pub record ClockAt (C : Config) (P : History) (m : ℕ) (c : ClockView) : Type 0 where
  pub workers : c.workers ≡ pool_at C P
  pub moment : c.moment ≡ m
  pub weights : c.weights ≡ rate_weight C P
  pub time : c.time ≡ pos (virtual_time C P m)
  pub cap : c.cap ≡ cap_for C.policy (pace C P).reached

-- the open requests of tenant t are counted, and under the policies whose virtual time is that of the clock its total
-- at any moment is its virtual idle time
pub record IdleAt (C : Config) (P : History) (m t : ℕ) (i : Idle) : Type 0 where
  pub undone : i.undone ≡ open_requests P t
  pub earlier : i.since ≤ℤ pos (virtual_time C P m)
  pub total : C.policy ≢ TwoDfqPlus → (k : ℕ) → total_at i (pos (virtual_time C P k)) ≡ pos (virtual_idle_time C P k t)

-- each tenant's idle time is so
pub record IdlesAt (C : Config) (P : History) (m : ℕ) (idles : List Idle) : Type 0 where
  pub tenants : length idles ≡ length C.weights
  pub each : (t : ℕ) → t < length C.weights → IdleAt C P m t (idle_of idles t)

-- the weights are those that the tenants have at the end of the history
pub record WeightsAre (C : Config) (P : History) (weights : List ℕ) : Type 0 where
  pub tenants : length weights ≡ length C.weights
  pub each : (t : ℕ) → t < length C.weights → slice_index weights t ≡ weight_at C P t

abbrev pub under_plus : Policy → Bool → Bool
under_plus TwoDfqPlus b = b
under_plus _ b = false

-- tenant t lingers: it is not active, and the fluid serves it, since it starts above virtual time; under 2dfq+ alone
abbrev pub lingers : Config → History → ℕ → Bool
lingers C P t = under_plus C.policy (not (is_active P t) && nat_lt (pace C P).now (tag C P t))

-- the key of tenant t among those that linger: its start
abbrev pub lingering_key : Config → History → ℕ → Option Key
lingering_key C P t = if lingers C P t then Some (key_for (pos (tag C P t))) else None

-- each tenant that lingers has its key, and the others have none
pub record LingeringAre (C : Config) (P : History) (keys : List (Option Key)) : Type 0 where
  pub tenants : length keys ≡ length C.weights
  pub each : (t : ℕ) → t < length C.weights → key_of keys t ≡ lingering_key C P t

-- the clock, the weights and the idle times are those of the history at m, and those linger that linger after its last
-- entry
pub record TimesAt (C : Config) (P : History) (m : ℕ) (times : Times) : Type 0 where
  pub clock_is : ClockAt C P m times.clock
  pub weights_are : WeightsAre C P times.weights
  pub idles_are : IdlesAt C P m times.idles
  pub lingering_are : LingeringAre C P times.lingering

-- ---- at the last entry

abbrev pub ClockIs : Config → History → ClockView → Type 0
ClockIs C P c = ClockAt C P (last_moment P) c

abbrev pub IdleIs : Config → History → ℕ → Idle → Type 0
IdleIs C P t i = IdleAt C P (last_moment P) t i

abbrev pub IdlesAre : Config → History → List Idle → Type 0
IdlesAre C P idles = IdlesAt C P (last_moment P) idles

abbrev pub TimesAre : Config → History → Times → Type 0
TimesAre C P times = TimesAt C P (last_moment P) times

-- ---- the numbers that are read

-- whatever history the times are of, and at whichever moment, this is its virtual time
abbrev pub IsTimeOf : Times → ℤ → Type 0
IsTimeOf times v = (C : Config) (P : History) (m : ℕ) → TimesAt C P m times → v ≡ pos (virtual_time C P m)

-- whatever history they are of, and at its last entry, this is its virtual time at the moment m
abbrev pub IsLaterTimeOf : Times → ℕ → ℤ → Type 0
IsLaterTimeOf times m v =
    (C : Config) (P : History) → InLimits C → IsLegal C P → TimesAre C P times → v ≡ pos (virtual_time C P m)

-- and this is the virtual time up to then that passed while the tenant was not active, but under 2dfq+
abbrev pub IsIdleTimeOf : Times → ℕ → ℤ → Type 0
IsIdleTimeOf times tenant v =
    (C : Config) (P : History) (m : ℕ) → C.policy ≢ TwoDfqPlus → TimesAt C P m times
    → v ≡ pos (virtual_idle_time C P m tenant)

-- whatever history the times are of, this is its number of workers
abbrev pub IsPoolOf : Times → ℕ → Type 0
IsPoolOf times n = (C : Config) (P : History) (m : ℕ) → TimesAt C P m times → n ≡ pool_at C P

-- and this is the weight of the tenant there
abbrev pub IsWeightOf : Times → ℕ → ℕ → Type 0
IsWeightOf times tenant w =
    (C : Config) (P : History) (m : ℕ) → TimesAt C P m times → tenant < length C.weights → w ≡ weight_at C P tenant

-- ---- at a Take

-- whatever history they were of, they have come to this moment
abbrev pub ComesTo : ℕ → Times → Times → Type 0
ComesTo moment before after =
    (C : Config) (P : History) → InLimits C → IsLegal C P → TimesAt C P (last_moment P) before
    → TimesAt C P moment after

-- the entry is a Take by this worker of the request that is its choice, which starts there and is so long
pub record TakesChoice (worker : ℕ) (start len : ℤ) (C : Config) (P : History) (e : Entry) : Type 0 where
  pub request : ℕ
  pub estimate : ℕ
  pub tenant : ℕ
  pub keys : HeadKeys
  pub act_is : e.act ≡ Take worker request estimate
  pub choice : IsChoiceAt C P e.moment worker tenant keys
  pub start_is : start ≡ keys.start
  pub len_is : len ≡ keys.len

-- the times are those of a history under 2dfq+ at the moment of such a Take
pub record AwaitsTake (worker : ℕ) (start len : ℤ) (times : Times) : Type 0 where
  pub config : Config
  pub history : History
  pub entry : Entry
  pub paced : config.policy ≡ TwoDfqPlus
  pub limits : InLimits config
  pub legal : IsLegal config (entry ∷ history)
  pub takes : TakesChoice worker start len config history entry
  pub times_at : TimesAt config history entry.moment times

-- and of each such history, they become those of the history with the Take
abbrev pub FollowsTake : ℕ → ℤ → ℤ → Times → Times → Type 0
FollowsTake worker start len before after =
    (C : Config) (P : History) (e : Entry) → C.policy ≡ TwoDfqPlus → InLimits C → IsLegal C (e ∷ P)
    → TakesChoice worker start len C P e → TimesAt C P e.moment before → TimesAre C (e ∷ P) after

-- ---- at a Done or a Withdraw

-- the times are those of a history after which a request of the tenant may end at this moment; the tenant then starts
-- at `start`
pub record AwaitsEnd (policy : Policy) (moment tenant : ℕ) (start : ℤ) (times : Times) : Type 0 where
  pub config : Config
  pub history : History
  pub entry : Entry
  pub policy_is : policy ≡ config.policy
  pub limits : InLimits config
  pub legal : IsLegal config (entry ∷ history)
  pub ends : Ends moment tenant history entry
  pub starts : config.policy ≡ TwoDfqPlus → start ≡ pos (tag config (entry ∷ history) tenant)
  pub times_are : TimesAre config history times

-- and of each such history, they become those of the history with the entry
abbrev pub FollowsEnd : Policy → ℕ → ℕ → ℤ → Times → Times → Type 0
FollowsEnd policy moment tenant start before after =
    (C : Config) (P : History) (e : Entry) → policy ≡ C.policy → InLimits C → IsLegal C (e ∷ P)
    → Ends moment tenant P e → (C.policy ≡ TwoDfqPlus → start ≡ pos (tag C (e ∷ P) tenant))
    → TimesAre C P before → TimesAre C (e ∷ P) after
