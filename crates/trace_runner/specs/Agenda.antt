-- The next event of a simulation.
use Rattle.std.specs.Prelude.{ℕ, ◌+◌, ◌-◌, ◌<◌, ◌≤◌, ◌≡◌, ◌⊎◌, nat_lt, nat_le, Bool, false, if◌then◌else◌, List, Option, Some, None, length, replicate, slice_get, slice_set}
use Rattle.program_model.specs.declared.trace.TraceRow.{TraceRow}
use Rattle.trace_runner.specs.declared.agenda.Agenda.{Agenda}
use Rattle.trace_runner.specs.declared.agenda.Event.{Event}
use Rattle.trace_runner.specs.declared.agenda.EventCall.{EventCall}
use Rattle.trace_runner.specs.declared.agenda.EventCall.TheVariants as what
use Rattle.trace_runner.specs.declared.staff.Work.{Work}
use Rattle.trace_runner.specs.Staff.{work_at, work_moment, work_rank, IsSmall, IsIdle, NoneIdle, NoneWorks, ComesBefore}

-- the agenda with this number of idle workers, who are numbered on from this caller, before the first entry
abbrev pub opened_agenda : ℕ → ℕ → Agenda
opened_agenda workers first_caller = record {
  staff = replicate workers None;
  first_caller = first_caller;
  moment = 0;
  submitted = 0;
  waiting = 0;
}

-- worker i reported or ended at m, and serves this then
abbrev pub after_work : Agenda → ℕ → ℕ → Option Work → Agenda
after_work a m i next = record a { staff = slice_set a.staff i next; moment = m }

-- the next request came at m
abbrev pub after_submit : Agenda → ℕ → Agenda
after_submit a m = record a { submitted = a.submitted + 1; waiting = a.waiting + 1; moment = m }

-- worker i took a request, and serves this then
abbrev pub after_take : Agenda → ℕ → Work → Agenda
after_take a i work = record a { staff = slice_set a.staff i (Some work); waiting = a.waiting - 1 }

-- the next call of worker i, by the request that it serves
abbrev pub next_of_work : ℕ → Work → EventCall
next_of_work i w = if nat_lt w.due w.cost then what.Report i w else what.Done i w

abbrev pub event_of_work : ℕ → Work → Event
event_of_work i w = record { moment = work_moment w; what = next_of_work i w }

-- the Submit of a request
abbrev pub event_of_row : TraceRow → Event
event_of_row row = record { moment = row.moment; what = what.Submit row }

-- there is an event, and it comes at m or before
abbrev pub comes_by : Option Event → ℕ → Bool
comes_by None m = false
comes_by (Some e) m = nat_le e.moment m

-- the rank of a call, where this number of requests was submitted
abbrev pub what_rank : ℕ → EventCall → ℕ × ℕ
what_rank submitted (what.Report worker work) = (0, worker)
what_rank submitted (what.Done worker work) = (1, worker)
what_rank submitted (what.Submit row) = (2, submitted)
what_rank submitted (what.Take worker) = (3, worker)

-- an entry at m of the first rank is at n and of the second, or is before that
abbrev pub ComesBy : ℕ → ℕ × ℕ → ℕ → ℕ × ℕ → Type 0
ComesBy m a n b = ((m ≡ n) × (a ≡ b)) ⊎ ComesBefore m a n b

-- it comes by the next one of each worker that serves a request
abbrev pub ByWorks : List (Option Work) → ℕ → ℕ × ℕ → Type 0
ByWorks works m rank = (i : ℕ) (w : Work) → work_at works i ≡ Some w → ComesBy m rank (work_moment w) (work_rank i w)

-- it comes by the Submit of request r
abbrev pub ByRows : List TraceRow → ℕ → ℕ → ℕ × ℕ → Type 0
ByRows rows r m rank = (row : TraceRow) → slice_get rows r ≡ Some row → ComesBy m rank row.moment (2, r)

-- the event is one that may come: of a worker that serves a request, of the next request, or of the first idle worker
-- where a request waits
abbrev pub MayCome : Agenda → List TraceRow → ℕ → EventCall → Type 0
MayCome a rows m (what.Report i w) = (work_at a.staff i ≡ Some w) × IsSmall w × (w.due < w.cost) × (m ≡ work_moment w)
MayCome a rows m (what.Done i w) = (work_at a.staff i ≡ Some w) × IsSmall w × (w.due ≡ w.cost) × (m ≡ work_moment w)
MayCome a rows m (what.Submit row) = (slice_get rows a.submitted ≡ Some row) × (m ≡ row.moment)
MayCome a rows m (what.Take i) =
    IsIdle a.staff i × ((j : ℕ) → IsIdle a.staff j → i ≤ j) × (1 ≤ a.waiting) × (m ≡ a.moment)

-- nothing waits, or each worker serves a request
abbrev pub NoneTakes : Agenda → Type 0
NoneTakes a = (a.waiting ≡ 0) ⊎ NoneIdle a.staff

-- the event may come and is before all others but Takes
pub record IsTimed (a : Agenda) (rows : List TraceRow) (e : Event) : Type 0 where
  pub may_come : MayCome a rows e.moment e.what
  pub works : ByWorks a.staff e.moment (what_rank a.submitted e.what)
  pub requests : ByRows rows a.submitted e.moment (what_rank a.submitted e.what)

-- no event but a Take is to come
pub record NothingTimed (a : Agenda) (rows : List TraceRow) : Type 0 where
  pub works : NoneWorks a.staff
  pub requests : length rows ≤ a.submitted

-- the event may come and is before all others, and time goes on only where no worker takes
pub record IsNext (a : Agenda) (rows : List TraceRow) (e : Event) : Type 0 where
  pub timed : IsTimed a rows e
  pub settled : a.moment < e.moment → NoneTakes a

-- nothing is to come
pub record NothingNext (a : Agenda) (rows : List TraceRow) : Type 0 where
  pub timed : NothingTimed a rows
  pub settled : NoneTakes a
