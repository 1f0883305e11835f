-- The scheduler that a handle holds, if it holds one.
use Rattle.std.specs.Prelude.{ℕ, Option}
use Rattle.sched_state.specs.Scheduler.{SchedulerView}

-- a scheduler, or none; its jobs are the labels of the requests that wait
abbrev pub Held : Type 0
Held = Option (SchedulerView ℕ)
