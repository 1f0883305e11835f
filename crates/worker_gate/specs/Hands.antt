-- The hands of a pool, before and after they run.
use Rattle.std.specs.Prelude.{◌≡◌, ℕ, ◌+◌, ◌<◌, ◌≤◌, List, length, slice_index_or, vec_capacity, All, Option, Some}
use Rattle.history_lock.specs.Passes.{LockView, IsOf}
use Rattle.status_board.specs.Boards.{BoardView, ReaderView, IsReaderOf}
use Rattle.desk.specs.declared.floor.Crew.{Crew}
use Rattle.desk.specs.declared.tokens.Submitter.{Submitter}
use Rattle.desk.specs.declared.tokens.Worker.{Worker}
use Rattle.gate_rules.specs.declared.counters.Counters.{Counters}
use Rattle.worker_gate.specs.declared.pool.Hand.{Hand}
use Rattle.worker_gate.specs.declared.pool.Hand.TheVariants.{Feed, Work, Watch}
use Rattle.worker_gate.specs.Feeding.{Feeds}
use Rattle.worker_gate.specs.Running.{Worked}
use Rattle.worker_gate.specs.Watching.{Watched}

module _ {J G : Type 0} where
  -- the hand has a token of this lock, or it has a reader of the shared board, and room for the statuses that it reads
  abbrev pub IsHandOf : LockView Crew → (shared : Option BoardView) → Hand J G → Type 0
  IsHandOf lock shared (Feed who rows total stopped) = IsOf lock who.pass
  IsHandOf lock shared (Work worker log) = IsOf lock worker.pass
  IsHandOf lock shared (Watch reader left expected seen) =
      (board : BoardView) × (shared ≡ Some board) × IsReaderOf board reader
      × (length seen.items + left ≤ vec_capacity seen)

  abbrev pub AreHandsOf : LockView Crew → Option BoardView → List (Hand J G) → Type 0
  AreHandsOf lock shared hands = All (IsHandOf lock shared) hands

  module _
      (label : J → ℕ) (lock : LockView Crew) (shared : Option BoardView) (course_of : ℕ → Option (List Counters))
      (cost_of : Counters → ℕ) (Tells : ℕ → Type 0) where
    -- the hand has its token or its reader back, and has done its part
    abbrev pub HandDid : Hand J G → Hand J G → Type 0
    HandDid (Feed who rows total stopped) new =
        (who2 : Submitter) × (rows2 : _) × (stopped2 : _) × (new ≡ Feed who2 rows2 total stopped2)
        × Feeds label (λ row. row.kind) lock Tells total rows.items who who2 stopped2 rows2.items
    HandDid (Work worker log) new =
        (worker2 : Worker) × (log2 : _) × (new ≡ Work worker2 log2)
        × Worked lock course_of cost_of Tells worker worker2 log log2
    HandDid (Watch reader left expected seen) new =
        (board : BoardView) × (reader2 : ReaderView) × (seen2 : _) × (shared ≡ Some board)
        × (new ≡ Watch reader2 0 expected seen2)
        × Watched board left reader reader2 seen.items seen2.items

    -- each hand has done its part, in its place
    abbrev pub HandsDid : List (Hand J G) → List (Hand J G) → Type 0
    HandsDid olds news = (length news ≡ length olds)
        × ((i : ℕ) (d : Hand J G) → i < length olds → HandDid (slice_index_or olds i d) (slice_index_or news i d))
