-- A call on the scheduler that a handle holds.
use Rattle.std.specs.Prelude.{◌≡◌, ℕ, Some, None}
use Rattle.fq_model.specs.declared.event.Call.{Call}
use Rattle.fq_model.specs.declared.event.Reply.{Reply}
use Rattle.sched_state.specs.Replies.{AnswersCall}
use Rattle.sched_state.specs.Scheduler.{SchedulerView}
use Rattle.twodfq_c.specs.declared.reply.PlainReply.{PlainReply}
use Rattle.twodfq_c.specs.Held.{Held}
use Rattle.twodfq_c.specs.Replies.{plain_reply, no_scheduler}

-- the scheduler answers the call, the numbers are its reply's, and the new scheduler is held
pub record AnswersInNumbers (old : SchedulerView ℕ) (call : Call) (plain : PlainReply) (new : Held) : Type 0 where
  pub reply : Reply
  pub left : SchedulerView ℕ
  pub numbers : plain ≡ plain_reply reply
  pub held : new ≡ Some left
  pub answers : AnswersCall old call reply left

-- where no scheduler is held the reply says so, and none is held afterwards
abbrev pub AnswersHeld : Held → Call → PlainReply → Held → Type 0
AnswersHeld None call plain new = (plain ≡ no_scheduler) × (new ≡ None)
AnswersHeld (Some old) call plain new = AnswersInNumbers old call plain new
