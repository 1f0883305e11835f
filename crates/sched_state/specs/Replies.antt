-- The reply that each result of a call is.
use Rattle.std.specs.Prelude.{ℕ, ◌≡◌, Result, Ok, Err, Some}
use Rattle.std.specs.FinMap as map
use Rattle.fq_model.specs.declared.event.Call.{Call}
use Rattle.fq_model.specs.declared.event.Foreseen.{Foreseen}
use Rattle.fq_model.specs.declared.event.Foreseen.TheVariants as foreseen
use Rattle.fq_model.specs.declared.event.Reply.{Reply}
use Rattle.fq_model.specs.declared.event.Reply.TheVariants as answer
use Rattle.fq_model.specs.declared.event.Cause.{Cause}
use Rattle.fq_model.specs.declared.event.Cause.TheVariants as cause
use Rattle.fq_model.specs.History.{history_of}
use Rattle.fq_model.specs.Rules.{Answers}
use Rattle.sched_state.specs.Scheduler.{SchedulerView}
use Rattle.sched_state.specs.declared.replies.Refused.{Refused}
use Rattle.sched_state.specs.declared.replies.AlreadyClosed.{AlreadyClosed}
use Rattle.sched_state.specs.declared.replies.Taken.{Taken}
use Rattle.sched_state.specs.declared.replies.Taken.TheVariants as taken

abbrev pub submit_reply : {J : Type 0} → Result ℕ (Refused J) → Reply
submit_reply (Ok request) = answer.Request request
submit_reply (Err refused) = answer.Refused refused.cause

-- the label is the job's
abbrev pub take_reply : {J : Type 0} → (J → ℕ) → Taken J → Reply
take_reply label (taken.UnknownWorker worker) = answer.Refused (cause.Worker worker)
take_reply label (taken.Busy request) = answer.Refused (cause.Busy request)
take_reply label (taken.Retired workers) = answer.Retired workers
take_reply label (taken.Run request estimate job) = answer.Run request estimate (label job)
take_reply label taken.Drained = answer.Drained
take_reply label taken.Idle = answer.Idle

-- the foreseen take that has this result, without work
abbrev pub foreseen_by : {J : Type 0} → Taken J → Foreseen
foreseen_by (taken.UnknownWorker worker) = foreseen.Refused (cause.Worker worker)
foreseen_by (taken.Busy request) = foreseen.Refused (cause.Busy request)
foreseen_by (taken.Retired workers) = foreseen.Retired workers
foreseen_by _ = foreseen.Nothing

-- of a Report, a Done, a Weight and a Workers
abbrev pub change_reply : Result (Unit {0}) Cause → Reply
change_reply (Ok accepted) = answer.Accepted
change_reply (Err why) = answer.Refused why

-- the label is that of the job that comes back
abbrev pub withdraw_reply : {J : Type 0} → (J → ℕ) → Result J Cause → Reply
withdraw_reply label (Ok job) = answer.Withdrawn (label job)
withdraw_reply label (Err why) = answer.Refused why

abbrev pub close_reply : Result (Unit {0}) AlreadyClosed → Reply
close_reply (Ok closed) = answer.Accepted
close_reply (Err closed) = answer.Refused cause.Closed

module _ {J : Type 0} where
  -- the call is answered so, and leaves this
  pub record AnswersCall (old : SchedulerView J) (call : Call) (reply : Reply) (new : SchedulerView J) : Type 0 where
    pub answers : Answers old.config (history_of old.past) call reply (history_of new.past)
    pub config_is : new.config ≡ old.config
    pub keep_is : new.keep ≡ old.keep

-- a job that is handed out is its request's, and is kept no longer; else nothing changes
abbrev pub HandsOut : {J : Type 0} → SchedulerView J → Taken J → SchedulerView J → Type 0
HandsOut old (taken.Run request estimate job) new =
    (map.get old.jobs request ≡ Some job) × (new.jobs ≡ map.remove old.jobs request)
HandsOut old _ new = new ≡ old

-- a job that comes back is its request's, and is kept no longer; else nothing changes
abbrev pub HandsBack : {J : Type 0} → SchedulerView J → ℕ → Result J Cause → SchedulerView J → Type 0
HandsBack old request (Ok job) new =
    (map.get old.jobs request ≡ Some job) × (new.jobs ≡ map.remove old.jobs request)
HandsBack old request (Err why) new = new ≡ old
