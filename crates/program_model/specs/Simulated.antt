-- The simulated history of a trace: its requests come at the moments of their rows and cost as their rows say, and no
-- worker is idle while one waits.
use Rattle.std.specs.Prelude.{ℕ, ◌+◌, ◌*◌, ◌<◌, ◌≡◌, max, false, List, [], ◌∷◌, length, filter, slice_get, Some, suc, ◌⊎◌}
use Rattle.fq_model.specs.declared.config.Config.{Config}
use Rattle.fq_model.specs.declared.event.Act.{Act}
use Rattle.fq_model.specs.declared.event.Act.TheVariants.{Submit, Take, Report, Done, Close}
use Rattle.fq_model.specs.declared.event.Entry.{Entry}
use Rattle.fq_model.specs.declared.limits.TheConstants.{LEAST_ENTRIES}
use Rattle.program_model.specs.declared.trace.RunOptions.{RunOptions}
use Rattle.program_model.specs.declared.trace.TraceRow.{TraceRow}
use Rattle.program_model.specs.Courses.{Each, worker_caller, sum_over, trace_config, course, reports_below, course_acts}
use Rattle.fq_model.specs.History.{History, history_of, has_act, is_submit, is_change, is_close, is_closed, waiting, Runs}
use Rattle.fq_model.specs.Rules.{IsLegal}
use Rattle.fq_model.specs.Time.{last_moment}
use Rattle.program_model.specs.Trace.{Trace}

-- how many entries a simulation has: three a request and its Reports, and the Close
abbrev pub needed_entries : List TraceRow → ℕ → ℕ
needed_entries rows refresh = 3 * length rows + 1 + sum_over (λ row. reports_below refresh row.cost) rows

-- the configuration of a simulation's scheduler
abbrev pub run_config : Trace → RunOptions → Config
run_config T O = trace_config T O (max LEAST_ENTRIES (needed_entries T.rows O.refresh))

-- the Submits of the rows in order, of which the first is row r
abbrev pub row_submits : ℕ → List TraceRow → List Entry
row_submits r [] = []
row_submits r (row ∷ rows) =
    record { who = row.submitter; moment = row.moment; act = Submit r row.tenant row.kind row.declared r }
    ∷ row_submits (suc r) rows

-- how long after the Take of its request the act comes: after just the use or the cost that it names
abbrev pub time_served : Act → ℕ
time_served (Report worker request used) = used
time_served (Done worker request cost) = cost
time_served _ = 0

-- the acts as entries of one caller, who took the request at the start
abbrev pub timed : ℕ → ℕ → List Act → History
timed who start [] = []
timed who start (act ∷ acts) =
    record { who = who; moment = start + time_served act; act = act }
    ∷ timed who start acts

-- r is taken once, by one worker, reported at each multiple of refresh below the cost of its row, and done at that cost
pub record IsServed (T : Trace) (refresh : ℕ) (H : History) (r : ℕ) (row : TraceRow) : Type 0 where
  pub worker : ℕ
  pub start : ℕ
  pub estimate : ℕ
  pub course_is :
      course H r ≡ timed (worker_caller T.rows worker) start (course_acts worker r estimate refresh row.cost)

-- the place of an act among those of one moment: Reports, then Dones, then Submits, then Takes; and in each of these by
-- worker, but Submits by request
abbrev pub rank : Act → ℕ × ℕ
rank (Report worker request used) = (0, worker)
rank (Done worker request cost) = (1, worker)
rank (Submit request tenant kind declared label) = (2, request)
rank (Take worker request estimate) = (3, worker)
rank _ = (4, 0)

abbrev pub RankBefore : ℕ × ℕ → ℕ × ℕ → Type 0
RankBefore a b = (a.0 < b.0) ⊎ ((a.0 ≡ b.0) × (a.1 < b.1))

-- at one moment the entry has a greater rank than the entry before it, where neither is the Close
abbrev pub InTurn : History → Entry → Type 0
InTurn [] e = Unit {0}
InTurn (d ∷ P) e =
    d.moment ≡ e.moment → is_close d.act ≡ false → is_close e.act ≡ false → RankBefore (rank d.act) (rank e.act)

-- worker i runs a request
abbrev pub RunsSomething : History → ℕ → Type 0
RunsSomething P i = (r : ℕ) × Runs P i r

-- each worker below n runs a request
abbrev pub AllRun : History → ℕ → Type 0
AllRun P n = (i : ℕ) → i < n → RunsSomething P i

-- a worker takes only where each lower one runs a request
abbrev pub TakesInTurn : History → Act → Type 0
TakesInTurn P (Take worker request estimate) = AllRun P worker
TakesInTurn P _ = Unit {0}

-- nothing waits, or each of n workers runs a request
abbrev pub IsSettled : ℕ → History → Type 0
IsSettled n P = (waiting P ≡ 0) ⊎ AllRun P n

-- of n workers no idle one lets a request wait: the lowest takes first, and a later moment or the Close comes only
-- where nothing waits or all run
pub record KeepsBusy (n : ℕ) (P : History) (e : Entry) : Type 0 where
  pub lower_run : TakesInTurn P e.act
  pub settled : (last_moment P < e.moment) ⊎ (e.act ≡ Close) → IsSettled n P

-- the one Close is the last entry, by caller 0, at the moment of the entry before it
pub record ClosesLast (H : History) : Type 0 where
  pub older : History
  pub last_is : H ≡ record { who = 0; moment = last_moment older; act = Close } ∷ older
  pub once : is_closed older ≡ false

-- H is the simulated history of a trace under these options (a law says that there is one and no other)
pub record IsSimulated (T : Trace) (O : RunOptions) (H : History) : Type 0 where
  pub legal : IsLegal (run_config T O) H
  pub submitted : filter (λ e. is_submit e.act) H ≡ history_of (row_submits 0 T.rows)
  pub served : (r : ℕ) (row : TraceRow) → slice_get T.rows r ≡ Some row → IsServed T O.refresh H r row
  pub in_turn : Each InTurn H
  pub busy : Each (KeepsBusy O.workers) H
  pub closed : ClosesLast H
  pub unchanged : has_act is_change H ≡ false
