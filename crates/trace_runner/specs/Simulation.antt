-- The invariant of a simulation: of its history so far, and of its agenda.
use Rattle.std.specs.Prelude.{ℕ, suc, ◌+◌, ◌*◌, ◌<◌, ◌≤◌, ◌≡◌, ◌==◌, min, true, false, if◌then◌else◌, [], ◌∷◌, length, filter, take, slice_get, Some, None}
use Rattle.vt_fixed.specs.declared.limits.TheConstants.{GREATEST_COST}
use Rattle.fq_model.specs.declared.limits.TheConstants.{GREATEST_TRACE_MOMENT}
use Rattle.fq_model.specs.declared.event.Act.TheVariants.{Take}
use Rattle.program_model.specs.declared.trace.RunOptions.{RunOptions}
use Rattle.program_model.specs.declared.trace.TraceRow.{TraceRow}
use Rattle.program_model.specs.Courses.{Each, submitters, worker_caller, course, with_reports}
use Rattle.fq_model.specs.History.{History, history_of, has_act, is_submit, is_change, is_closed, is_done, submits, waiting, running_on, last_use}
use Rattle.fq_model.specs.Rules.{IsLegal}
use Rattle.program_model.specs.Simulated.{run_config, row_submits, timed, rank, IsServed, InTurn, KeepsBusy}
use Rattle.fq_model.specs.Time.{last_moment}
use Rattle.program_model.specs.Trace.{Trace}
use Rattle.sched_state.specs.Scheduler.{SchedulerView}
use Rattle.trace_runner.specs.declared.agenda.Agenda.{Agenda}
use Rattle.trace_runner.specs.declared.staff.Work.{Work}
use Rattle.trace_runner.specs.Plan.{IsPlan}
use Rattle.trace_runner.specs.Staff.{work_at, work_moment, work_rank, IsIdle, ComesBefore}

-- an entry at m of this rank comes in turn after the last one
abbrev pub FollowsLast : History → ℕ → ℕ × ℕ → Type 0
FollowsLast [] m place = Unit {0}
FollowsLast (e ∷ P) m place = ComesBefore e.moment (rank e.act) m place

-- m is not too late: each Take moves time on by the greatest cost at most
abbrev pub InTime : History → ℕ → Type 0
InTime P m = m + GREATEST_COST * waiting P ≤ GREATEST_TRACE_MOMENT + GREATEST_COST * submits P

-- worker i serves a request of the trace: it took the request at the start, a number of Reports came, and the next
-- entry is a Report, or the Done where no more Reports come
pub record Serves (T : Trace) (O : RunOptions) (P : History) (i : ℕ) (w : Work) : Type 0 where
  pub request : ℕ
  pub row : TraceRow
  pub row_is : slice_get T.rows request ≡ Some row
  pub runs : running_on P i ≡ Some request
  pub cost_is : w.cost ≡ row.cost
  pub reports : ℕ
  pub due_is : w.due ≡ (if O.refresh == 0 then w.cost else min (suc reports * O.refresh) w.cost)
  pub below : reports * O.refresh < w.cost
  pub no_reports : O.refresh ≡ 0 → reports ≡ 0
  pub estimate : ℕ
  pub course_is : course P request ≡ timed (worker_caller T.rows i) w.start
      (with_reports i request O.refresh reports (Take i request estimate ∷ []))
  pub used_is : last_use P request ≡ reports * O.refresh
  pub in_time : InTime P (w.start + w.cost)

-- the history so far is legal and has the form of the simulated history, the agenda has the entries that are still to
-- come, and all of these come in turn after the last entry
pub record Keeps (T : Trace) (O : RunOptions) (P : History) (a : Agenda) : Type 0 where
  pub legal : IsLegal (run_config T O) P
  pub open_still : is_closed P ≡ false
  pub unchanged : has_act is_change P ≡ false
  pub caller_is : a.first_caller ≡ submitters T.rows
  pub moment_is : a.moment ≡ last_moment P
  pub submitted_is : a.submitted ≡ submits P
  pub waiting_is : a.waiting ≡ waiting P
  pub rows_left : submits P ≤ length T.rows
  pub workers : length a.staff ≡ O.workers
  pub requests : filter (λ e. is_submit e.act) P ≡ history_of (row_submits 0 (take (submits P) T.rows))
  pub served : (r : ℕ) (row : TraceRow) → slice_get T.rows r ≡ Some row → is_done P r ≡ true →
      IsServed T O.refresh P r row
  pub works : (i : ℕ) (w : Work) → work_at a.staff i ≡ Some w → Serves T O P i w
  pub idle : (i : ℕ) → work_at a.staff i ≡ None → running_on P i ≡ None
  pub in_turn : Each InTurn P
  pub busy : Each (KeepsBusy O.workers) P
  pub in_time : InTime P (last_moment P)
  pub works_follow : (i : ℕ) (w : Work) → work_at a.staff i ≡ Some w → FollowsLast P (work_moment w) (work_rank i w)
  pub rows_follow : (row : TraceRow) → slice_get T.rows (submits P) ≡ Some row → FollowsLast P row.moment (2, submits P)
  pub idle_follow : (i : ℕ) → IsIdle a.staff i → FollowsLast P (last_moment P) (3, i)

-- the scheduler and the agenda are those of a simulation of the trace
pub record Simulates (T : Trace) (O : RunOptions) (s : SchedulerView ℕ) (a : Agenda) : Type 0 where
  pub plan : IsPlan T O
  pub config_is : s.config ≡ run_config T O
  pub keeps : Keeps T O (history_of s.past) a
