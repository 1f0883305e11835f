-- The parts of the submitters and workers of a trace, before and after they are done.
use Rattle.std.specs.Prelude.{ℕ, ◌+◌, ◌≡◌, List, [], ◌∷◌, ◌++◌, map, length, Option}
use Rattle.fq_model.specs.declared.event.Cause.{Cause}
use Rattle.program_model.specs.declared.trace.TraceRow.{TraceRow}
use Rattle.program_model.specs.Courses.{submitters, worker_caller}
use Rattle.program_model.specs.PoolHistory.{requests_from}
use Rattle.history_lock.specs.Passes.{LockView}
use Rattle.desk.specs.declared.floor.Crew.{Crew}
use Rattle.desk.specs.declared.tokens.Submitter.{Submitter}
use Rattle.desk.specs.declared.tokens.Worker.{Worker}
use Rattle.desk.specs.Opening.{IsNew}
use Rattle.trace_pool.specs.Hands.{TraceHand}
use Rattle.worker_gate.specs.declared.pool.Hand.TheVariants.{Feed, Work}
use Rattle.gate_rules.specs.declared.logged_gate.Asked.{Asked}
use Rattle.gate_rules.specs.declared.rows.Row.{Row}
use Rattle.worker_gate.specs.Feeding.{Feeds}
use Rattle.gate_rules.specs.Rules.{work_cost}
use Rattle.worker_gate.specs.Running.{Worked}
use Rattle.trace_pool.specs.PoolEnd.{trace_course, row_asks}
use Rattle.trace_pool.specs.Places.{HoldsFrom}

-- these are the rows of submitter j, in order
abbrev pub AreRowsOf : List TraceRow → ℕ → List (Row ℕ) → Type 0
AreRowsOf rows j queue = map row_asks queue ≡ requests_from j 0 rows

-- the lock's crew has the submitters that the rows name
abbrev pub IsCrewOf : List TraceRow → LockView Crew → Type 0
IsCrewOf rows lock = lock.frame.submitters ≡ submitters rows

-- the first submitter knows the number of callers
abbrev pub KnowsAll : LockView Crew → ℕ → Submitter → Type 0
KnowsAll lock j who = j ≡ 0 → who.pass.made + 1 ≡ lock.frame.submitters + lock.frame.config.workers

module _ (rows : List TraceRow) (lock : LockView Crew) where
  -- a hand that is to feed the rows of submitter j
  abbrev pub IsFeedOf : ℕ → TraceHand → Type 0
  IsFeedOf j (Feed who queue total stopped) =
      IsNew lock j who.pass × AreRowsOf rows j queue.items × (total ≡ length rows)
      × KnowsAll lock j who
  IsFeedOf j _ = ⊥

  -- a hand that is to work as worker i
  abbrev pub IsWorkOf : ℕ → TraceHand → Type 0
  IsWorkOf i (Work worker log) = IsNew lock (worker_caller rows i) worker.pass × (worker.worker ≡ i)
  IsWorkOf i _ = ⊥

  -- the hands of `feeds` submitters, and then those of `works` workers
  pub record AreHands (feeds works : ℕ) (hands : List TraceHand) : Type 0 where
    pub first : List TraceHand
    pub second : List TraceHand
    pub both : hands ≡ first ++ second
    pub are_feeds : HoldsFrom IsFeedOf 0 first
    pub are_works : HoldsFrom IsWorkOf 0 second
    pub feed_count : length first ≡ feeds
    pub work_count : length second ≡ works

  module _ (refresh : ℕ) (Tells : ℕ → Type 0) where
    -- submitter j has done its part, and this is its token
    pub record HasFed (j : ℕ) (ended : Submitter) : Type 0 where
      pub begun : Submitter
      pub queue : List (Row ℕ)
      pub stopped : Option (Row ℕ × Cause)
      pub rest : List (Row ℕ)
      pub new : IsNew lock j begun.pass
      pub queue_is : AreRowsOf rows j queue
      pub made : KnowsAll lock j ended
      pub feeds : Feeds (λ n. n) (λ row. row.kind) lock Tells (length rows) queue begun ended stopped rest

    -- worker i has done its part, and this is its token
    pub record HasWorked (i : ℕ) (ended : Worker) : Type 0 where
      pub begun : Worker
      pub new : IsNew lock (worker_caller rows i) begun.pass
      pub numbered : begun.worker ≡ i
      pub log : List Asked
      pub log2 : List Asked
      pub worked : Worked lock (trace_course refresh rows) work_cost Tells begun ended log log2

    -- the hand's submitter or worker has done its part
    abbrev pub HasFedHand : ℕ → TraceHand → Type 0
    HasFedHand j (Feed who queue total stopped) = HasFed j who
    HasFedHand j _ = ⊥

    abbrev pub HasWorkedHand : ℕ → TraceHand → Type 0
    HasWorkedHand i (Work worker log) = HasWorked i worker
    HasWorkedHand i _ = ⊥

    -- the submitters have done their parts, and the workers theirs
    pub record AreDone (feeds works : ℕ) (hands : List TraceHand) : Type 0 where
      pub first : List TraceHand
      pub second : List TraceHand
      pub both : hands ≡ first ++ second
      pub have_fed : HoldsFrom HasFedHand 0 first
      pub have_worked : HoldsFrom HasWorkedHand 0 second
      pub feed_count : length first ≡ feeds
      pub work_count : length second ≡ works

    -- all submitters and all workers have done their parts, and these are their tokens
    pub record HaveDone (submitters : List Submitter) (workers : List Worker) : Type 0 where
      pub fed : HoldsFrom HasFed 0 submitters
      pub worked : HoldsFrom HasWorked 0 workers
      pub submitter_count : length submitters ≡ lock.frame.submitters
      pub worker_count : length workers ≡ lock.frame.config.workers
