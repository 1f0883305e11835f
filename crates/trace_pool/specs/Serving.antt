-- What a pool needs to serve a trace.
use Rattle.std.specs.Prelude.{ℕ, ◌+◌, ◌≡◌, ◌≤◌, ◌<◌, [], ◌∷◌, List, length, vec_capacity, Option, Some}
use Rattle.fq_model.specs.declared.limits.TheConstants.{MOST_ENTRIES}
use Rattle.program_model.specs.declared.trace.RunOptions.{RunOptions}
use Rattle.program_model.specs.declared.trace.TraceRow.{TraceRow}
use Rattle.program_model.specs.Courses.{submitters}
use Rattle.program_model.specs.PoolHistory.{needed_pool_entries, pool_config}
use Rattle.program_model.specs.RunLimits.{AreInRange}
use Rattle.program_model.specs.Trace.{Trace}
use Rattle.program_model.specs.TraceText.{IsLawfulTrace}
use Rattle.history_lock.specs.Passes.{LockView}
use Rattle.status_board.specs.Boards.{BoardView, ReaderView}
use Rattle.desk.specs.declared.floor.Crew.{Crew}
use Rattle.desk.specs.Opening.{AreTokens}
use Rattle.worker_gate.specs.declared.pool.Hand.TheVariants.{Watch}
use Rattle.worker_gate.specs.Hands.{IsHandOf}
use Rattle.worker_gate.specs.Watching.{Watched}
use Rattle.trace_pool.specs.declared.gate.TraceGate.{TraceGate}
use Rattle.trace_pool.specs.declared.hands.Tokens.{Tokens}
use Rattle.trace_pool.specs.declared.serving.Room.{Room}
use Rattle.trace_pool.specs.declared.serving.Supplies.{Supplies}
use Rattle.trace_pool.specs.declared.serving.Team.{Team}
use Rattle.trace_pool.specs.declared.fault.PoolFault.{PoolFault}
use Rattle.trace_pool.specs.declared.fault.PoolFault.TheVariants.{TooManyEntries}
use Rattle.trace_pool.specs.Hands.{TraceHand}
use Rattle.trace_pool.specs.Parts.{AreRowsOf, IsCrewOf}
use Rattle.trace_pool.specs.Places.{HoldsFrom}

-- the history of a pool that serves the trace might have too many entries, and the fault that says so
abbrev pub IsTooLong : Trace → RunOptions → Type 0
IsTooLong T O = MOST_ENTRIES < needed_pool_entries T.rows O.refresh

abbrev pub too_long : Trace → RunOptions → PoolFault
too_long T O = TooManyEntries (needed_pool_entries T.rows O.refresh)

-- a pool can serve the trace
pub record IsServable (T : Trace) (O : RunOptions) : Type 0 where
  pub lawful : IsLawfulTrace T
  pub options : AreInRange O
  pub few : needed_pool_entries T.rows O.refresh ≤ MOST_ENTRIES

-- the room is empty, and has place for `hands` hands and the watcher's, for `times` statuses, and for a reader
pub record HasRoom (hands times : ℕ) (room : Room) : Type 0 where
  pub hands_are : room.hands.items ≡ []
  pub hands_fit : hands < vec_capacity room.hands
  pub statuses_are : room.statuses.items ≡ []
  pub statuses_fit : times ≤ vec_capacity room.statuses
  pub readers_are : room.readers.items ≡ []
  pub readers_fit : 0 < vec_capacity room.readers

-- the supplies of a pool that serves the trace, whose status is read `times` times
pub record AreSupplies (T : Trace) (O : RunOptions) (times : ℕ) (supplies : Supplies) : Type 0 where
  pub config_is : supplies.config ≡ pool_config T O
  pub queues_are : HoldsFrom (λ j q. AreRowsOf T.rows j q.items) 0 supplies.queues.items
  pub queue_count : length supplies.queues.items ≡ submitters T.rows
  pub room : HasRoom (submitters T.rows + O.workers) times supplies.room

module _ (lock : LockView Crew) (shared : Option BoardView) where
  -- the hand watches the shared board
  abbrev pub IsWatcherOf : TraceHand → Type 0
  IsWatcherOf (Watch reader left expected seen) =
      IsHandOf {J = ℕ} {G = TraceGate} lock shared (Watch reader left expected seen)
  IsWatcherOf _ = ⊥

  -- the tokens of all callers of a desk that was just opened, the rows of each submitter, a watcher, and room for hands
  pub record IsTeamOf (rows : List TraceRow) (team : Team) : Type 0 where
    pub crew : IsCrewOf rows lock
    pub tokens : AreTokens lock.frame lock team.tokens.submitters.items team.tokens.workers.items
    pub no_readers : team.tokens.readers.items ≡ []
    pub readers_fit : 0 < vec_capacity team.tokens.readers
    pub queues_are : HoldsFrom (λ j q. AreRowsOf rows j q.items) 0 team.queues.items
    pub queue_count : length team.queues.items ≡ length team.tokens.submitters.items
    pub watcher : IsWatcherOf team.watcher
    pub no_hands : team.hands.items ≡ []
    pub hands_fit : length team.tokens.submitters.items + length team.tokens.workers.items < vec_capacity team.hands

-- the watcher has read the status of the board as often as it was to, and these are its reader and its statuses
abbrev pub HasWatched : Option BoardView → TraceHand → Tokens → Type 0
HasWatched shared (Watch reader left expected seen) tokens =
    (board : BoardView) × (reader2 : ReaderView) × (shared ≡ Some board) × (tokens.readers.items ≡ reader2 ∷ [])
    × Watched board left reader reader2 seen.items tokens.statuses.items
HasWatched shared _ tokens = ⊥
