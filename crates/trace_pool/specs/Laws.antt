-- The laws of a pool at its end.
use Rattle.std.specs.Prelude.{ℕ, List}
use Rattle.fq_model.specs.declared.event.Entry.{Entry}
use Rattle.program_model.specs.declared.trace.RunOptions.{RunOptions}
use Rattle.fq_model.specs.History.{history_of}
use Rattle.fq_model.specs.Limits.{InLimits}
use Rattle.program_model.specs.RunLimits.{AreInRange}
use Rattle.program_model.specs.PoolHistory.{IsPoolHistory, HasToldMoments, pool_config}
use Rattle.program_model.specs.Trace.{Trace}
use Rattle.program_model.specs.TraceText.{IsLawfulTrace}
use Rattle.history_lock.specs.Passes.{LockView}
use Rattle.desk.specs.declared.floor.Crew.{Crew}
use Rattle.trace_pool.specs.PoolEnd.{PoolEnds}

-- the past is a history of a pool that served the trace: nothing was refused, and each request was taken once and done
abbrev pub PoolHistoryIs : (ℕ → Type 0) → Type 0
PoolHistoryIs Tells =
    (T : Trace) (O : RunOptions) (lock : LockView Crew) (past : List Entry) → IsLawfulTrace T → AreInRange O
    → InLimits (pool_config T O) → PoolEnds T O lock Tells past → IsPoolHistory T O (history_of past)

-- and each of its entries is at the effective moment of a moment that the clock tells
abbrev pub PoolMomentsAre : (ℕ → Type 0) → Type 0
PoolMomentsAre Tells =
    (T : Trace) (O : RunOptions) (lock : LockView Crew) (past : List Entry) → PoolEnds T O lock Tells past
    → HasToldMoments Tells (history_of past)
