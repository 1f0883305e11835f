-- Why a call is refused, where the rules do not say it in one word.
use Rattle.std.specs.Prelude.{ℕ, ◌<◌, ◌≡◌, ◌≢◌, nat_lt, if◌then◌else◌, Option, Some, None, Result, Ok, Err}
use Rattle.fq_model.specs.declared.config.Config.{Config}
use Rattle.fq_model.specs.declared.event.Call.TheVariants as call
use Rattle.fq_model.specs.declared.event.Cause.{Cause}
use Rattle.fq_model.specs.declared.event.Cause.TheVariants as cause
use Rattle.fq_model.specs.History.{History, waiting, pool_at}
use Rattle.fq_model.specs.Rules.{Answers, take_refusal, needed_room}
use Rattle.sched_state.specs.declared.replies.AlreadyClosed.{AlreadyClosed}
use Rattle.sched_state.specs.declared.replies.Taken.{Taken}
use Rattle.sched_state.specs.declared.replies.Taken.TheVariants as taken
use Rattle.sched_state.specs.Replies.{take_reply}

-- this result of a take has no job
abbrev pub HasNoJob : {J : Type 0} → Taken J → Type 0
HasNoJob (taken.Run request estimate job) = ⊥
HasNoJob _ = Unit {0}

-- a take by the worker gets this result, which is no work, and nothing changes
pub record GetsNone {J : Type 0} (label : J → ℕ) (C : Config) (P : History) (worker : ℕ) (told : Taken J) : Type 0 where
  pub answers : (who moment : ℕ) → Answers C P (call.Take who moment worker) (take_reply label told) P
  pub no_job : HasNoJob told

-- or the worker gets work
pub record GetsWork (C : Config) (P : History) (worker : ℕ) : Type 0 where
  pub free : take_refusal C P worker ≡ None
  pub pooled : worker < pool_at C P
  pub some_waits : waiting P ≢ 0

-- the cause of a close that is refused, if it is
abbrev pub closed_cause : Result (Unit {0}) AlreadyClosed → Option Cause
closed_cause (Ok closed) = None
closed_cause (Err closed) = Some cause.Closed

-- why `more` entries are refused, if they are
abbrev pub room_refusal : Config → History → ℕ → Option Cause
room_refusal C P more = if nat_lt C.entries (needed_room P more) then Some (cause.Full C.entries) else None
