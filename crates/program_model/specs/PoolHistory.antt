-- The history of a live pool: submitters hand in the rows of a trace and workers serve them, in whatever order they
-- come to it.
use Rattle.std.specs.Prelude.{ℕ, ◌+◌, ◌*◌, ◌<◌, ◌≤◌, ◌≡◌, ◌==◌, max, Bool, true, false, not, ◌||◌, if◌then◌else◌, List, [], ◌∷◌, ◌++◌, map, length, reverse, slice_get, Some, suc}
use Rattle.vt_fixed.specs.Rounding.{ceil_div}
use Rattle.fq_model.specs.declared.config.Config.{Config}
use Rattle.fq_model.specs.declared.event.Act.{Act}
use Rattle.fq_model.specs.declared.event.Act.TheVariants.{Submit}
use Rattle.fq_model.specs.declared.limits.TheConstants.{LEAST_ENTRIES, MOST_SLICES}
use Rattle.program_model.specs.declared.trace.RunOptions.{RunOptions}
use Rattle.program_model.specs.declared.trace.TraceRow.{TraceRow}
use Rattle.program_model.specs.Courses.{Each, submitters, worker_caller, sum_over, trace_config, row_request, reports_below, course_acts}
use Rattle.fq_model.specs.History.{History, Request, request_at, has_act, count_acts, is_submit, is_change, is_take_of, is_close, is_closed, is_submitted, is_done}
use Rattle.fq_model.specs.Outcome.{own_entries}
use Rattle.fq_model.specs.Rules.{IsLegal}
use Rattle.fq_model.specs.Time.{effective_moment}
use Rattle.program_model.specs.Trace.{Trace}

-- a request of this cost is reported after each step of use: refresh, or more where it would have too many slices;
-- without refresh it is the whole cost
unfoldable pub step_of : ℕ → ℕ → ℕ
step_of refresh cost = if refresh == 0 then cost else max refresh (ceil_div cost MOST_SLICES)

-- how many times a request of this row is reported
abbrev pub row_reports : ℕ → TraceRow → ℕ
row_reports refresh row = reports_below (step_of refresh row.cost) row.cost

-- how many entries a pool needs: three a request and its Reports, the Close, and one that stays free, so that no Report
-- lacks room
abbrev pub needed_pool_entries : List TraceRow → ℕ → ℕ
needed_pool_entries rows refresh = 3 * length rows + 2 + sum_over (row_reports refresh) rows

-- the configuration of a pool's scheduler
abbrev pub pool_config : Trace → RunOptions → Config
pool_config T O = trace_config T O (max LEAST_ENTRIES (needed_pool_entries T.rows O.refresh))

-- Submitters.

-- the request that the act submits, before the requests that were submitted earlier
abbrev pub with_request : Act → List Request → List Request
with_request (Submit request tenant kind declared label) older =
    record { tenant = tenant; kind = kind; declared = declared; label = label }
    ∷ older
with_request _ older = older

-- the requests in the Submits, the newest first
abbrev pub submitted_requests : History → List Request
submitted_requests [] = []
submitted_requests (e ∷ P) = with_request e.act (submitted_requests P)

-- the requests of the rows of submitter j, in order, where the first of these rows is row r
abbrev pub requests_from : ℕ → ℕ → List TraceRow → List Request
requests_from j r [] = []
requests_from j r (row ∷ rows) =
    if row.submitter == j
    then row_request r row ∷ requests_from j (suc r) rows
    else requests_from j (suc r) rows

abbrev pub is_submit_or_close : Act → Bool
is_submit_or_close act = is_submit act || is_close act

-- these are the entries of submitter j: the Submits of its rows in order, and one Close at most
pub record IsFed (T : Trace) (j : ℕ) (own : History) : Type 0 where
  pub rows : submitted_requests own ≡ reverse (requests_from j 0 T.rows)
  pub no_other : has_act (λ act. not (is_submit_or_close act)) own ≡ false
  pub closes : count_acts is_close own ≤ 1

-- there is one Close, and no Submit after it
pub record ClosesOnce (H : History) : Type 0 where
  pub once : count_acts is_close H ≡ 1
  pub no_later_submit : Each (λ P e. is_submit e.act ≡ true → is_closed P ≡ false) H

-- Workers.

-- a request that a worker served: its number, its estimate when it was taken, and the row that it came from
pub record Served : Type 0 where
  pub request : ℕ
  pub estimate : ℕ
  pub row : TraceRow

-- it came from the row that its label names
pub record CameFromRow (T : Trace) (H : History) (x : Served) : Type 0 where
  pub asked : Request
  pub asked_is : request_at H x.request ≡ Some asked
  pub row_is : slice_get T.rows asked.label ≡ Some x.row

abbrev pub AllCameFromRows : Trace → History → List Served → Type 0
AllCameFromRows T H [] = Unit {0}
AllCameFromRows T H (x ∷ xs) = CameFromRow T H x × AllCameFromRows T H xs

-- how worker i serves them one after another, the newest first
abbrev pub courses_acts : ℕ → ℕ → List Served → List Act
courses_acts refresh i [] = []
courses_acts refresh i (x ∷ xs) =
    course_acts i x.request x.estimate (step_of refresh x.row.cost) x.row.cost
    ++ courses_acts refresh i xs

-- these are the entries of worker i: the courses of requests, one after another, each at its row's cost
pub record IsServing (T : Trace) (refresh : ℕ) (H : History) (i : ℕ) (own : History) : Type 0 where
  pub requests : List Served
  pub acts_are : map (λ e. e.act) own ≡ courses_acts refresh i requests
  pub from_rows : AllCameFromRows T H requests

-- r is taken once, and done
pub record IsServedOnce (H : History) (r : ℕ) : Type 0 where
  pub taken : count_acts (is_take_of r) H ≡ 1
  pub done : is_done H r ≡ true

-- H is a history of a pool that serves this trace under these options, at any moments
pub record IsPoolHistory (T : Trace) (O : RunOptions) (H : History) : Type 0 where
  pub legal : IsLegal (pool_config T O) H
  pub fed : (j : ℕ) → j < submitters T.rows → IsFed T j (own_entries H j)
  pub closed : ClosesOnce H
  pub serving : (i : ℕ) → i < O.workers → IsServing T O.refresh H i (own_entries H (worker_caller T.rows i))
  pub served : (r : ℕ) → is_submitted H r ≡ true → IsServedOnce H r
  pub known : Each (λ P e. e.who < worker_caller T.rows O.workers) H
  pub unchanged : has_act is_change H ≡ false

-- each entry stands at the effective moment of one that the clock tells
abbrev pub HasToldMoments : (ℕ → Type 0) → History → Type 0
HasToldMoments Tells H = Each (λ P e. (m : ℕ) × Tells m × (e.moment ≡ effective_moment P m)) H
