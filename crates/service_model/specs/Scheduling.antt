-- Calls on a scheduler: each is answered as the scheduler's own rules say.
use Rattle.std.specs.Prelude.{ℕ, ◌≡◌, ◌==◌, Bool, true, false, Option, Some, None, MatchBool}
use Rattle.fq_model.specs.declared.config.Config.{Config}
use Rattle.fq_model.specs.declared.event.Call.{Call}
use Rattle.fq_model.specs.declared.event.Call.TheVariants as call
use Rattle.fq_model.specs.declared.event.Cause.{Cause}
use Rattle.fq_model.specs.declared.event.Cause.TheVariants as cause
use Rattle.fq_model.specs.declared.event.Reply.{Reply}
use Rattle.fq_model.specs.History.{History}
use Rattle.fq_model.specs.Rules.{Answers, submit_refusal, weight_refusal, workers_refusal}
use Rattle.service_model.specs.declared.config.ServiceConfig.{ServiceConfig}
use Rattle.service_model.specs.View.{Scheduler, ServiceView}

-- the caller of all entries but those of workers, which have their worker's number: no worker has this one
abbrev pub service_caller : ServiceConfig → ℕ
service_caller c = c.scheduler.workers

-- the scheduler answers the call by this reply, and is then t
abbrev pub Makes : Scheduler → Call → Reply → Scheduler → Type 0
Makes s asked reply t = (t.config ≡ s.config) × Answers s.config s.history asked reply t.history

-- the present scheduler answers the call by this reply, and nothing else changes
pub record MakesNow (v : ServiceView) (asked : Call) (reply : Reply) (w : ServiceView) : Type 0 where
  pub next : Scheduler
  pub makes : Makes v.present asked reply next
  pub after : w ≡ record v { present = next }

-- the scheduler before it does
pub record MakesBefore (v : ServiceView) (asked : Call) (reply : Reply) (w : ServiceView) : Type 0 where
  pub next : Scheduler
  pub makes : Makes v.former asked reply next
  pub after : w ≡ record v { former = next }

-- the scheduler of this number answers the call by this reply: the present one, or the one before
abbrev pub MakesAt : ServiceView → ℕ → Call → Reply → ServiceView → Type 0
MakesAt v scheduler asked reply w =
    MatchBool (scheduler == v.rolls) (MakesNow v asked reply w) (MakesBefore v asked reply w)

abbrev pub is_full : Option Cause → Bool
is_full (Some (cause.Full entries)) = true
is_full _ = false

-- why a call that needs room is refused, if it is
abbrev pub room_call_refusal : Config → History → Call → Option Cause
room_call_refusal C P (call.Submit who moment tenant kind declared label) = submit_refusal C P tenant kind declared
room_call_refusal C P (call.Weight who moment tenant weight) = weight_refusal C P tenant weight
room_call_refusal C P (call.Workers who moment count) = workers_refusal C P count
room_call_refusal C P _ = None

-- the scheduler would refuse the call for want of room in its history, and for no other cause
abbrev pub lacks_room : Scheduler → Call → Bool
lacks_room s asked = is_full (room_call_refusal s.config s.history asked)
