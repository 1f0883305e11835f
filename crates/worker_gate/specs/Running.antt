-- A worker and the jobs that it takes.
use Rattle.std.specs.Prelude.{◌≡◌, ℕ, zero, suc, ◌<◌, Bool, false, if◌then◌else◌, List, [], ◌∷◌, map, length, Option, Some, None}
use Rattle.fq_model.specs.declared.config.Config.{Config}
use Rattle.fq_model.specs.declared.event.Act.{Act}
use Rattle.fq_model.specs.declared.event.Act.TheVariants.{Take, Report, Done}
use Rattle.fq_model.specs.declared.event.Call.TheVariants as call
use Rattle.fq_model.specs.declared.event.Entry.{Entry}
use Rattle.fq_model.specs.declared.event.Reply.{Reply}
use Rattle.fq_model.specs.declared.event.Reply.TheVariants as answer
use Rattle.fq_model.specs.declared.limits.TheConstants.{MOST_SLICES}
use Rattle.fq_model.specs.History.{History, history_of, Request, request_at}
use Rattle.fq_model.specs.Outcome.{own_entries}
use Rattle.fq_model.specs.Rules.{Answers, needed_room}
use Rattle.history_lock.specs.Histories.{IsPrefix}
use Rattle.history_lock.specs.Passes.{LockView}
use Rattle.desk.specs.declared.floor.Crew.{Crew}
use Rattle.desk.specs.declared.tokens.Worker.{Worker}
use Rattle.desk.specs.Tokens.{Stays}
use Rattle.gate_rules.specs.declared.counters.Counters.{Counters}
use Rattle.worker_gate.specs.Moments.{HasToldMomentsFrom}
use Rattle.gate_rules.specs.declared.gate.Slice.{Slice}
use Rattle.gate_rules.specs.declared.logged_gate.Asked.{Asked}
use Rattle.gate_rules.specs.Asking.{with_slices, IsLast}
use Rattle.gate_rules.specs.Slices.{counters_after, counters_of, total, IsCourse}

-- a use that a worker named of a request, and whether its Report is in the history
pub record Use : Type 0 where
  pub used : ℕ
  pub is_kept : Bool

-- a job that a worker ran to its end: its request, the estimate at its Take, its label, the counters that all its
-- slices but the last came to, the newest first, the answer to the last, the uses that were named, the newest first,
-- and its cost
pub record JobRun : Type 0 where
  pub request : ℕ
  pub estimate : ℕ
  pub label : ℕ
  pub mores : List Counters
  pub last : Slice
  pub uses : List Use
  pub cost : ℕ

-- Reports by worker i of the uses that are kept, the newest first, onto older acts
abbrev pub with_uses : ℕ → ℕ → List Use → List Act → List Act
with_uses i request [] older = older
with_uses i request (use_ ∷ uses) older =
    if use_.is_kept
    then Report i request use_.used ∷ with_uses i request uses older
    else with_uses i request uses older

-- the acts of worker i for a job, the newest first, onto older acts: a Take, its Reports and a Done
abbrev pub with_run : ℕ → JobRun → List Act → List Act
with_run i run older =
    Done i run.request run.cost ∷ with_uses i run.request run.uses (Take i run.request run.estimate ∷ older)

-- its acts for one job after another, the newest first
abbrev pub with_runs : ℕ → List JobRun → List Act → List Act
with_runs i [] older = older
with_runs i (run ∷ runs) older = with_run i run (with_runs i runs older)

-- the slices that it asks the gate for, of one job after another, the newest first, onto an older log: slices 0, 1 and
-- so on of each, each of them once
abbrev pub with_asks : List JobRun → List Asked → List Asked
with_asks [] older = older
with_asks (run ∷ runs) older = with_slices run.label run.mores run.last (with_asks runs older)

-- the acts of entries in order of time, the newest first
abbrev pub acts_of : List Entry → List Act
acts_of entries = map (λ e. e.act) (history_of entries)

-- The run is charged by the gate's answers: the uses that it named are the rule's costs of all slices but the last, and
-- its cost is the rule's cost of the last, which is an End or slice 9,999
pub record IsCharged (cost_of : Counters → ℕ) (run : JobRun) : Type 0 where
  pub uses_are : map (λ u. u.used) run.uses ≡ map cost_of run.mores
  pub cost_is : run.cost ≡ cost_of (counters_of run.last)
  pub ends : IsLast (length run.mores) run.last

-- the rule's costs of the first k slices of a course, the newest first
abbrev pub uses_after : (Counters → ℕ) → List Counters → ℕ → List ℕ
uses_after cost_of course zero = []
uses_after cost_of course (suc k) = cost_of (counters_after course k) ∷ uses_after cost_of course k

-- The run follows the course: the uses that it named are the rule's costs of all slices but the last, and its cost is
-- the rule's cost of the total
pub record FollowsCourse (cost_of : Counters → ℕ) (course : List Counters) (run : JobRun) : Type 0 where
  pub is_course : IsCourse course
  pub last : ℕ
  pub last_is : suc last ≡ length course
  pub uses_are : map (λ u. u.used) run.uses ≡ uses_after cost_of course last
  pub cost_is : run.cost ≡ cost_of (total course)

abbrev pub IsAsTold : (Counters → ℕ) → Option (List Counters) → JobRun → Type 0
IsAsTold cost_of None run = Unit {0}
IsAsTold cost_of (Some course) run = FollowsCourse cost_of course run

-- At some prefix of the seen history there was no room for a Report, and the caller of this number had made these
-- acts, the newest first, and no others
abbrev pub LackedRoom : Config → ℕ → List Entry → List Act → Type 0
LackedRoom C number seen made =
    (P : List Entry) × IsPrefix P seen × (acts_of (own_entries P number) ≡ made)
    × (C.entries < needed_room (history_of P) 2)

-- Each use is kept, or there was no room for its Report while the worker had made just the acts before that use: the
-- older acts, and the Reports of the uses before it that are kept
abbrev pub AreKeptWhereRoom : Config → ℕ → ℕ → ℕ → List Entry → List Act → List Use → Type 0
AreKeptWhereRoom C number i request seen older [] = Unit {0}
AreKeptWhereRoom C number i request seen older (use_ ∷ uses) =
    (use_.is_kept ≡ false → LackedRoom C number seen (with_uses i request uses older))
    × AreKeptWhereRoom C number i request seen older uses

-- the label is that of the request
abbrev pub HasLabel : History → ℕ → ℕ → Type 0
HasLabel H request label = (asked : Request) × (request_at H request ≡ Some asked) × (asked.label ≡ label)

-- The worker is worker i, calls by this number, and has seen these entries; `course_of` gives the course of a label,
-- where the gate tells it
module _ (C : Config) (number i : ℕ)
    (course_of : ℕ → Option (List Counters)) (cost_of : Counters → ℕ) (seen : List Entry) where
  -- A run that its worker makes onto older acts. Each slice that a request may have, but the last, may be reported
  pub record IsRun (older : List Act) (run : JobRun) : Type 0 where
    pub labelled : HasLabel (history_of seen) run.request run.label
    pub few : length run.uses < MOST_SLICES
    pub kept : AreKeptWhereRoom C number i run.request seen (Take i run.request run.estimate ∷ older) run.uses
    pub charged : IsCharged cost_of run
    pub follows : IsAsTold cost_of (course_of run.label) run

  -- each run, the newest first, is made onto the older acts and those of the runs before it
  abbrev pub AreRuns : List Act → List JobRun → Type 0
  AreRuns older [] = Unit {0}
  AreRuns older (run ∷ runs) = IsRun (with_runs i runs older) run × AreRuns older runs

-- nothing waits and nothing more will come, or the pool has no place for the worker now
abbrev pub EndsWork : Reply → Type 0
EndsWork answer.Drained = Unit {0}
EndsWork (answer.Retired workers) = Unit {0}
EndsWork _ = ⊥

-- at the history that it has seen, the worker gets one of the two replies
abbrev pub IsTurnedAway : Config → Worker → Type 0
IsTurnedAway C worker = (moment : ℕ) × (reply : Reply) × EndsWork reply
    × Answers C (history_of worker.pass.seen) (call.Take worker.pass.number moment worker.worker) reply
    (history_of worker.pass.seen)

-- The worker is turned away now, and has added to its own entries the Take, the Reports and the Done of one job after
-- another, at moments that the clock tells. It has added the slices of these jobs to the log
pub record Worked
    (lock : LockView Crew) (course_of : ℕ → Option (List Counters)) (cost_of : Counters → ℕ) (Tells : ℕ → Type 0)
    (old new : Worker) (asked asked2 : List Asked) : Type 0 where
  pub stays : Stays lock old.pass new.pass
  pub worker : new.worker ≡ old.worker
  pub seen : IsPrefix old.pass.seen new.pass.seen
  pub runs : List JobRun
  pub acts_are : acts_of new.pass.mine ≡ with_runs new.worker runs (acts_of old.pass.mine)
  pub asked_are : asked2 ≡ with_asks runs asked
  pub runs_are :
      AreRuns lock.frame.config new.pass.number new.worker course_of cost_of new.pass.seen (acts_of old.pass.mine) runs
  pub moments : HasToldMomentsFrom Tells new.pass.number (length old.pass.seen) (history_of new.pass.seen)
  pub turned_away : IsTurnedAway lock.frame.config new
