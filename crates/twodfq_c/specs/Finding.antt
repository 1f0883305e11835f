-- The foreseen take of a worker, by the scheduler that a handle holds.
use Rattle.std.specs.Prelude.{◌≡◌, ℕ, Some, None}
use Rattle.fq_model.specs.declared.event.Foreseen.{Foreseen}
use Rattle.fq_model.specs.Foresee.{IsForeseen}
use Rattle.fq_model.specs.History.{history_of}
use Rattle.sched_state.specs.Scheduler.{SchedulerView}
use Rattle.twodfq_c.specs.declared.reply.PlainReply.{PlainReply}
use Rattle.twodfq_c.specs.Held.{Held}
use Rattle.twodfq_c.specs.Replies.{plain_foreseen, no_scheduler}

-- a take by worker i at the moment m is foreseen so, and the numbers say it
pub record FindsInNumbers (s : SchedulerView ℕ) (m i below : ℕ) (plain : PlainReply) : Type 0 where
  pub found : Foreseen
  pub numbers : plain ≡ plain_foreseen found
  pub is_foreseen : IsForeseen s.config (history_of s.past) m i below found

-- where no scheduler is held the numbers say so
abbrev pub FindsHeld : Held → (moment worker below : ℕ) → PlainReply → Type 0
FindsHeld None m i below plain = plain ≡ no_scheduler
FindsHeld (Some s) m i below plain = FindsInNumbers s m i below plain
