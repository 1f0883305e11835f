-- A worker, step by step.
use Rattle.std.specs.Prelude.{◌≡◌, ℕ, ◌≤◌, ◌<◌, List, ◌∷◌, length, Option}
use Rattle.fq_model.specs.declared.event.Act.TheVariants.{Done}
use Rattle.fq_model.specs.declared.limits.TheConstants.{MOST_SLICES}
use Rattle.fq_model.specs.History.{history_of, last_use}
use Rattle.fq_model.specs.Rules.{IsLegal}
use Rattle.history_lock.specs.Histories.{IsPrefix}
use Rattle.history_lock.specs.Passes.{LockView, PassView, IsOf}
use Rattle.desk.specs.declared.floor.Crew.{Crew}
use Rattle.desk.specs.declared.tokens.Running.{Running}
use Rattle.desk.specs.declared.tokens.Worker.{Worker}
use Rattle.desk.specs.Replies.{SameRun}
use Rattle.desk.specs.Tokens.{Stays}
use Rattle.gate_rules.specs.declared.counters.Counters.{Counters}
use Rattle.gate_rules.specs.declared.gate.Slice.{Slice}
use Rattle.gate_rules.specs.declared.logged_gate.Asked.{Asked}
use Rattle.gate_rules.specs.Asking.{with_slices}
use Rattle.worker_gate.specs.declared.work.AfterTake.{AfterTake}
use Rattle.worker_gate.specs.declared.work.AfterTake.TheVariants.{On, Over}
use Rattle.worker_gate.specs.Moments.{HasToldMomentsFrom}
use Rattle.worker_gate.specs.Running.{Use, JobRun, with_uses, with_runs, acts_of, with_asks, AreKeptWhereRoom, IsCharged, IsAsTold, AreRuns, Worked}

-- the run of the request by its worker
abbrev pub run_of : Running → ℕ → List Counters → Slice → List Use → ℕ → JobRun
run_of running label mores last uses cost = record {
  request = running.request;
  estimate = running.estimate;
  label = label;
  mores = mores;
  last = last;
  uses = uses;
  cost = cost;
}

-- the token is of this lock, and nothing was reported of its request
pub record IsAtStart (lock : LockView Crew) (running : Running) : Type 0 where
  pub own : IsOf lock running.pass
  pub unused : last_use (history_of running.pass.mine) running.request ≡ 0

module _ (lock : LockView Crew) (Tells : ℕ → Type 0) where
  -- after calls of its caller a pass has seen its history grow, and the calls were made at moments that the clock tells
  pub record Goes (old new : PassView Crew) : Type 0 where
    pub stays : Stays lock old new
    pub seen : IsPrefix old.seen new.seen
    pub moments : (before : ℕ) → HasToldMomentsFrom Tells old.number before (history_of old.seen)
        → HasToldMomentsFrom Tells old.number before (history_of new.seen)

  -- these uses of the request were named, and the history has no use of it above `most`
  pub record HasNamed (old new : Running) (uses : List Use) (most : ℕ) : Type 0 where
    pub goes : Goes old.pass new.pass
    pub run : SameRun old new
    pub acts_are : acts_of new.pass.mine ≡ with_uses old.worker old.request uses (acts_of old.pass.mine)
    pub kept :
        AreKeptWhereRoom lock.frame.config old.pass.number old.worker old.request
        new.pass.seen (acts_of old.pass.mine) uses
    pub rising : last_use (history_of new.pass.mine) old.request ≤ most

  module _ (course_of : ℕ → Option (List Counters)) (cost_of : Counters → ℕ) where
    -- the slices of a job of this label were run, and came to this cost
    pub record HasRunSlices (label : ℕ) (old new : Running) (asked asked2 : List Asked) (cost : ℕ) : Type 0 where
      pub mores : List Counters
      pub last : Slice
      pub uses : List Use
      pub few : length uses < MOST_SLICES
      pub named : HasNamed old new uses cost
      pub charged : IsCharged cost_of (run_of old label mores last uses cost)
      pub follows : IsAsTold cost_of (course_of label) (run_of old label mores last uses cost)
      pub asked_are : asked2 ≡ with_slices label mores last asked

    -- the job of this label was run to its end
    pub record HasRun (label : ℕ) (old : Running) (new : Worker) (asked asked2 : List Asked) : Type 0 where
      pub goes : Goes old.pass new.pass
      pub worker : new.worker ≡ old.worker
      pub legal : IsLegal lock.frame.config (history_of new.pass.seen)
      pub mores : List Counters
      pub last : Slice
      pub uses : List Use
      pub cost : ℕ
      pub acts_are : acts_of new.pass.mine
          ≡ Done old.worker old.request cost ∷ with_uses old.worker old.request uses (acts_of old.pass.mine)
      pub few : length uses < MOST_SLICES
      pub kept :
          AreKeptWhereRoom lock.frame.config old.pass.number old.worker old.request
          new.pass.seen (acts_of old.pass.mine) uses
      pub charged : IsCharged cost_of (run_of old label mores last uses cost)
      pub follows : IsAsTold cost_of (course_of label) (run_of old label mores last uses cost)
      pub asked_are : asked2 ≡ with_slices label mores last asked

    -- so far the worker has run these jobs
    pub record Serves (old new : Worker) (asked asked2 : List Asked) : Type 0 where
      pub goes : Goes old.pass new.pass
      pub worker : new.worker ≡ old.worker
      pub runs : List JobRun
      pub acts_are : acts_of new.pass.mine ≡ with_runs old.worker runs (acts_of old.pass.mine)
      pub asked_are : asked2 ≡ with_asks runs asked
      pub runs_are :
          AreRuns lock.frame.config old.pass.number old.worker course_of cost_of
          new.pass.seen (acts_of old.pass.mine) runs

    -- after its turn the worker goes on, and has run jobs so far, or it has worked to the end
    abbrev pub HasTurned : Worker → AfterTake → List Asked → List Asked → Type 0
    HasTurned begun (On free) asked asked2 = Serves begun free asked asked2
    HasTurned begun (Over ended) asked asked2 = Worked lock course_of cost_of Tells begun ended asked asked2
