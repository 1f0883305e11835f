-- The end of a pool whose hands served the rows of a trace.
use Rattle.std.specs.Prelude.{ℕ, ◌<◌, ◌≤◌, ◌≡◌, List, [], map, length, slice_get, Option, option_map}
use Rattle.fq_model.specs.declared.event.Cause.{Cause}
use Rattle.fq_model.specs.declared.event.Entry.{Entry}
use Rattle.program_model.specs.declared.trace.RunOptions.{RunOptions}
use Rattle.program_model.specs.declared.trace.TraceRow.{TraceRow}
use Rattle.program_model.specs.Courses.{submitters, worker_caller}
use Rattle.fq_model.specs.History.{history_of, Request}
use Rattle.fq_model.specs.Outcome.{own_entries}
use Rattle.program_model.specs.PoolHistory.{step_of, pool_config, requests_from}
use Rattle.fq_model.specs.Rules.{IsLegal}
use Rattle.program_model.specs.Trace.{Trace}
use Rattle.history_lock.specs.Passes.{LockView}
use Rattle.desk.specs.declared.floor.Crew.{Crew}
use Rattle.desk.specs.declared.tokens.Submitter.{Submitter}
use Rattle.desk.specs.declared.tokens.Worker.{Worker}
use Rattle.desk.specs.Ending.{IsIn}
use Rattle.desk.specs.Opening.{IsNew}
use Rattle.gate_rules.specs.declared.counters.Counters.{Counters}
use Rattle.gate_rules.specs.declared.logged_gate.Asked.{Asked}
use Rattle.gate_rules.specs.declared.rows.Row.{Row}
use Rattle.worker_gate.specs.Feeding.{Feeds, request_of}
use Rattle.gate_rules.specs.Rules.{work_cost}
use Rattle.worker_gate.specs.Running.{Worked}
use Rattle.gate_rules.specs.Stepping.{step_course}

-- the course of the row that a label names: its cost in steps
abbrev pub trace_course : ℕ → List TraceRow → ℕ → Option (List Counters)
trace_course refresh rows label =
    option_map (λ row. step_course (step_of refresh row.cost) row.cost) (slice_get rows label)

-- a row is submitted with the kind that it names, and its job is its label
abbrev pub row_asks : Row ℕ → Request
row_asks row = request_of (λ n. n) (λ r. r.kind) row

module _ (T : Trace) (O : RunOptions) (lock : LockView Crew) (Tells : ℕ → Type 0) (past : List Entry) where
  -- submitter j, who began with nothing, has fed the rows of its number, and its entries are in the past
  pub record FeedEnds (j : ℕ) : Type 0 where
    pub begun : Submitter
    pub ended : Submitter
    pub rows : List (Row ℕ)
    pub stopped : Option (Row ℕ × Cause)
    pub rest : List (Row ℕ)
    pub new : IsNew lock j begun.pass
    pub rows_are : map row_asks rows ≡ requests_from j 0 T.rows
    pub feeds : Feeds (λ n. n) (λ row. row.kind) lock Tells (length T.rows) rows begun ended stopped rest
    pub in_past : IsIn past ended.pass

  -- worker i, who began with nothing, has worked to the end, and its entries are in the past
  pub record WorkEnds (i : ℕ) : Type 0 where
    pub begun : Worker
    pub ended : Worker
    pub new : IsNew lock (worker_caller T.rows i) begun.pass
    pub numbered : begun.worker ≡ i
    pub log : List Asked
    pub log2 : List Asked
    pub worked : Worked lock (trace_course O.refresh T.rows) work_cost Tells begun ended log log2
    pub in_past : IsIn past ended.pass

  -- The past of a desk that was opened for the trace is legal, each of its submitters and workers has done its part,
  -- and nobody else has entries
  pub record PoolEnds : Type 0 where
    pub config : lock.frame.config ≡ pool_config T O
    pub legal : IsLegal (pool_config T O) (history_of past)
    pub fed : (j : ℕ) → j < submitters T.rows → FeedEnds j
    pub served : (i : ℕ) → i < O.workers → WorkEnds i
    pub no_other : (number : ℕ) → worker_caller T.rows O.workers ≤ number → own_entries past number ≡ []
