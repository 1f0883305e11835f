-- The reply that each result of a call is, and the token that comes with it.
use Rattle.std.specs.Prelude.{ℕ, ◌≡◌, Some, None, Result, Ok, Err}
use Rattle.fq_model.specs.declared.event.Reply.{Reply}
use Rattle.fq_model.specs.declared.event.Reply.TheVariants as answer
use Rattle.fq_model.specs.declared.event.Cause.{Cause}
use Rattle.fq_model.specs.declared.event.Cause.TheVariants as cause
use Rattle.fq_model.specs.History.{History, running_on}
use Rattle.history_lock.specs.Passes.{PassView}
use Rattle.desk.specs.declared.floor.Crew.{Crew}
use Rattle.desk.specs.declared.tokens.Worker.{Worker}
use Rattle.desk.specs.declared.tokens.Running.{Running}
use Rattle.desk.specs.declared.tokens.Took.{Took}
use Rattle.desk.specs.declared.tokens.Took.TheVariants as took
use Rattle.desk.specs.declared.refusals.LiveRefusal.{LiveRefusal}
use Rattle.desk.specs.declared.refusals.LiveRefusal.TheVariants as live
use Rattle.desk.specs.declared.refusals.DoneRefusal.{DoneRefusal}
use Rattle.desk.specs.declared.refusals.DoneRefusal.TheVariants as ending

-- the label is the job's
abbrev pub took_reply : {J : Type 0} → (J → ℕ) → Took J → Reply
took_reply label (took.Run running job) = answer.Run running.request running.estimate (label job)
took_reply label (took.Idle worker) = answer.Idle
took_reply label (took.Drained worker) = answer.Drained
took_reply label (took.Retired worker workers) = answer.Retired workers

abbrev pub took_pass : {J : Type 0} → Took J → PassView Crew
took_pass (took.Run running job) = running.pass
took_pass (took.Idle worker) = worker.pass
took_pass (took.Drained worker) = worker.pass
took_pass (took.Retired worker workers) = worker.pass

abbrev pub took_worker : {J : Type 0} → Took J → ℕ
took_worker (took.Run running job) = running.worker
took_worker (took.Idle worker) = worker.worker
took_worker (took.Drained worker) = worker.worker
took_worker (took.Retired worker workers) = worker.worker

-- a worker that took runs the request that it was given, and else none
abbrev pub TookLeft : ℕ → History → Reply → Type 0
TookLeft i H (answer.Run request estimate label) = running_on H i ≡ Some request
TookLeft i H answer.Idle = running_on H i ≡ None
TookLeft i H answer.Drained = running_on H i ≡ None
TookLeft i H (answer.Retired workers) = running_on H i ≡ None
TookLeft i H _ = ⊥

-- the causes that a report may have
abbrev pub IsLive : Cause → Type 0
IsLive (cause.Cost used) = Unit {0}
IsLive (cause.Falling last given) = Unit {0}
IsLive (cause.Full entries) = Unit {0}
IsLive _ = ⊥

abbrev pub live_cause : LiveRefusal → Cause
live_cause (live.Cost used) = cause.Cost used
live_cause (live.Falling last given) = cause.Falling last given
live_cause (live.Full entries) = cause.Full entries

abbrev pub live_reply : Result (Unit {0}) LiveRefusal → Reply
live_reply (Ok accepted) = answer.Accepted
live_reply (Err why) = answer.Refused (live_cause why)

-- the causes that a refused done may have
abbrev pub IsEnding : Cause → Type 0
IsEnding (cause.Cost cost) = Unit {0}
IsEnding (cause.Falling last given) = Unit {0}
IsEnding _ = ⊥

abbrev pub done_cause : DoneRefusal → Cause
done_cause (ending.Cost cost) = cause.Cost cost
done_cause (ending.Falling last given) = cause.Falling last given

abbrev pub done_reply : Result Worker (Running × DoneRefusal) → Reply
done_reply (Ok worker) = answer.Accepted
done_reply (Err back) = answer.Refused (done_cause back.1)

abbrev pub done_pass : Result Worker (Running × DoneRefusal) → PassView Crew
done_pass (Ok worker) = worker.pass
done_pass (Err back) = back.0.pass

-- worker, request and estimate are as before
pub record SameRun (old new : Running) : Type 0 where
  pub worker : new.worker ≡ old.worker
  pub request : new.request ≡ old.request
  pub estimate : new.estimate ≡ old.estimate

-- the worker is free, or where that is refused runs on
abbrev pub GoesOn : Running → Result Worker (Running × DoneRefusal) → Type 0
GoesOn running (Ok worker) = worker.worker ≡ running.worker
GoesOn running (Err back) = SameRun running back.0
