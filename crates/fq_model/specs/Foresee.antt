-- The answer to a take, foreseen: a question that changes nothing.
use Rattle.std.specs.Prelude.{ℕ, ◌<◌, ◌≡◌, ◌↔◌, ◌==◌, nat_le, IsTrue, Option, Some, None, MatchBool}
use Rattle.fq_model.specs.declared.config.Config.{Config}
use Rattle.fq_model.specs.declared.event.Cause.{Cause}
use Rattle.fq_model.specs.declared.event.Foreseen.{Foreseen}
use Rattle.fq_model.specs.declared.event.Foreseen.TheVariants.{Nothing, Run, Retired, Refused}
use Rattle.fq_model.specs.declared.event.ForeseenRun.{ForeseenRun}
use Rattle.fq_model.specs.History.{History, Request, request_at, waiting, pool_at}
use Rattle.fq_model.specs.Charge.{request_estimate}
use Rattle.fq_model.specs.Keys.{HeadKeys, HasKeys, Turn, IsEligible, turn_at}
use Rattle.fq_model.specs.Rules.{IsChosen, take_refusal}
use Rattle.fq_model.specs.Time.{effective_moment}

-- some tenant's head is eligible, and is smaller than what was asked about
pub record SomeIsSmaller (at : Turn) (Has IsSmaller : ℕ → HeadKeys → Type 0) : Type 0 where
  pub tenant : ℕ
  pub keys : HeadKeys
  pub has : Has tenant keys
  pub eligible : IsEligible at keys
  pub smaller : IsSmaller tenant keys

-- the request of these keys has an estimate below this
pub record IsBelow (C : Config) (P : History) (below : ℕ) (k : HeadKeys) : Type 0 where
  pub asked : Request
  pub asked_is : request_at P k.request ≡ Some asked
  pub less : request_estimate C P asked < below

-- some head that is eligible for worker i at m has an estimate below this
abbrev pub HasSmaller : Config → History → (m i below : ℕ) → Type 0
HasSmaller C P m i below = SomeIsSmaller (turn_at C P m i) (HasKeys C P m) (λ u k. IsBelow C P below k)

-- a Take of worker i at m would be of this request, at this estimate; whether it is eligible, and whether some eligible
-- head has an estimate below the one asked about
pub record IsForeseenRun (C : Config) (P : History) (m i below : ℕ) (run : ForeseenRun) : Type 0 where
  pub asked : Request
  pub chosen : IsChosen C P m i run.request run.estimate asked
  pub tenant_is : run.tenant ≡ asked.tenant
  pub kind_is : run.kind ≡ asked.kind
  pub eligible : IsTrue run.is_eligible ↔ IsEligible (turn_at C P m i) chosen.keys
  pub smaller : IsTrue run.has_smaller ↔ HasSmaller C P m i below

-- the foreseen answer to a worker of the pool that runs nothing, where something waits
abbrev pub IsForeseenOfWaiting : Config → History → (m i below : ℕ) → Foreseen → Type 0
IsForeseenOfWaiting C P m i below (Run run) = IsForeseenRun C P m i below run
IsForeseenOfWaiting C P m i below _ = ⊥

-- the foreseen answer to a worker of the pool that runs nothing: Nothing exactly where nothing waits
abbrev pub IsForeseenPooled : Config → History → (m i below : ℕ) → Foreseen → Type 0
IsForeseenPooled C P m i below foreseen =
    MatchBool (waiting P == 0) (foreseen ≡ Nothing) (IsForeseenOfWaiting C P m i below foreseen)

-- the foreseen answer to a worker that runs nothing: Retired, with the number of workers, where its own is not below
-- that
abbrev pub IsForeseenFree : Config → History → (m i below : ℕ) → Foreseen → Type 0
IsForeseenFree C P m i below foreseen =
    MatchBool (nat_le (pool_at C P) i) (foreseen ≡ Retired (pool_at C P)) (IsForeseenPooled C P m i below foreseen)

-- Refused for the cause, if there is one; if there is none, `Else` holds
abbrev pub ForeseenUnless : Option Cause → Foreseen → Type 0 → Type 0
ForeseenUnless None foreseen Else = Else
ForeseenUnless (Some c) foreseen Else = foreseen ≡ Refused c

-- the foreseen answer to a take by worker i at this moment, which is made effective, as that of a call
abbrev pub IsForeseen : Config → History → (moment worker below : ℕ) → Foreseen → Type 0
IsForeseen C P moment i below foreseen =
    ForeseenUnless (take_refusal C P i) foreseen (IsForeseenFree C P (effective_moment P moment) i below foreseen)
