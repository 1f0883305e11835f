-- The end of a pool, as its tokens and the past tell it.
use Rattle.std.proofs.Common.{ℕ, ◌<◌, ◌≤◌, ◌≡◌, List, [], ◌∷◌, length, Result, Ok, ap, ◌∙◌, subst, arith}
use Rattle.std.specs.Prelude.{IfOk}
use Rattle.fq_model.specs.declared.event.Entry.{Entry}
use Rattle.program_model.specs.declared.trace.RunOptions.{RunOptions}
use Rattle.program_model.specs.declared.trace.TraceRow.{TraceRow}
use Rattle.program_model.specs.Courses.{submitters}
use Rattle.fq_model.specs.History.{history_of}
use Rattle.program_model.specs.RunLimits.{AreInRange}
use Rattle.program_model.specs.PoolHistory.{IsPoolHistory, HasToldMoments, needed_pool_entries, pool_config}
use Rattle.fq_model.specs.declared.limits.TheConstants.{MOST_ENTRIES}
use Rattle.fq_model.specs.Rules.{IsLegal}
use Rattle.program_model.specs.Trace.{Trace}
use Rattle.program_model.specs.TraceText.{IsLawfulTrace}
use Rattle.history_lock.specs.Passes.{LockView, HasNoneAbove}
use Rattle.desk.specs.declared.floor.Crew.{Crew}
use Rattle.desk.specs.declared.tokens.Submitter.{Submitter}
use Rattle.desk.specs.declared.tokens.Worker.{Worker}
use Rattle.desk.specs.Ending.{HasAll, IsIn, first_made}
use Rattle.trace_pool.specs.PoolEnd.{FeedEnds, WorkEnds, PoolEnds}
use Rattle.trace_pool.proofs.Ends.{pool_history, pool_moments}
use Rattle.trace_reader.proofs.InLimits.{trace_limits}
use Rattle.trace_pool.specs.Parts.{IsCrewOf, HasFed, HasWorked, HaveDone}
use Rattle.trace_pool.proofs.Tokens.{found_at, made_is}

-- what holds of each Ok holds of this
pub of_ok : {A E : Type 0} (P : A → Type 0) (r : Result A E) (x : A) → r ≡ Ok x → IfOk r P → P x
of_ok P r x is h = subst (λ q. IfOk q P) is h

-- there is a submitter
pub some_submitter : (rows : List TraceRow) → 0 < submitters rows
some_submitter [] = omega arith
some_submitter (row ∷ rows) = omega arith

-- the crew of a desk that was opened for the submitters of the rows
pub crew_is : (T : Trace) (rows : List TraceRow) (lock : LockView Crew) {crew : Crew} → lock.frame ≡ crew → crew.submitters ≡ submitters rows → rows ≡ T.rows → IsCrewOf T.rows lock
crew_is T rows lock frame counted same = ap (λ (f : Crew). f.submitters) frame ∙ (counted ∙ ap submitters same)

pub crew_some : (T : Trace) (lock : LockView Crew) → IsCrewOf T.rows lock → 0 < lock.frame.submitters
crew_some T lock crew = omega (arith, some_submitter T.rows, crew)

module _ (T : Trace) (O : RunOptions) (lock : LockView Crew) (Tells : ℕ → Type 0) (past : List Entry) (first : List Submitter) (second : List Worker) (h : HaveDone T.rows lock O.refresh Tells first second) (all : HasAll past first second) where
  feed_ends : (j : ℕ) → j < length first → FeedEnds T O lock Tells past j
  feed_ends j here =
      let x = found_at (HasFed T.rows lock O.refresh Tells) (λ (t : Submitter). IsIn past t.pass) j 0 j first here (omega arith) h.fed all.of_submitters in let f = x.1 in record {
        begun = f.begun;
        ended = x.0;
        rows = f.queue;
        stopped = f.stopped;
        rest = f.rest;
        new = f.new;
        rows_are = f.queue_is;
        feeds = f.feeds;
        in_past = x.2;
      }

  work_ends : (i : ℕ) → i < length second → WorkEnds T O lock Tells past i
  work_ends i here =
      let x = found_at (HasWorked T.rows lock O.refresh Tells) (λ (t : Worker). IsIn past t.pass) i 0 i second here (omega arith) h.worked all.of_workers in let w = x.1 in record {
        begun = w.begun;
        ended = x.0;
        new = w.new;
        numbered = w.numbered;
        log = w.log;
        log2 = w.log2;
        worked = w.worked;
        in_past = x.2;
      }

  module _ (config : lock.frame.config ≡ pool_config T O) (crew : IsCrewOf T.rows lock) (some : 0 < lock.frame.submitters) (legal : IsLegal (pool_config T O) (history_of past)) (above : HasNoneAbove past (first_made first)) where
    pool_ends : PoolEnds T O lock Tells past
    pool_ends =
        let staff : lock.frame.config.workers ≡ O.workers = ap (λ C. C.workers) config in record {
          config = config;
          legal = legal;
          fed = λ j b. feed_ends j (omega (arith, b, h.submitter_count, crew));
          served = λ i b. work_ends i (omega (arith, b, h.worker_count, staff));
          no_other = λ number b. above number (omega (arith, b, made_is T.rows lock O.refresh Tells first second h some, crew, staff));
        }

    pub served_so : IsLawfulTrace T → AreInRange O → needed_pool_entries T.rows O.refresh ≤ MOST_ENTRIES → IsPoolHistory T O (history_of past) × HasToldMoments Tells (history_of past)
    served_so lawful options few = (
      pool_history Tells T O lock past lawful options (trace_limits T O _ lawful options (omega arith, omega (arith, few))) pool_ends,
      pool_moments Tells T O lock past pool_ends,
    )
