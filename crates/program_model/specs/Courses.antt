-- The rows of a trace in a history: each is submitted, and a worker serves it from a Take to a Done.
use Rattle.std.specs.Prelude.{ℕ, zero, suc, ◌+◌, ◌-◌, ◌*◌, ◌/◌, ◌==◌, max, Bool, false, if◌then◌else◌, List, [], ◌∷◌, length, filter}
use Rattle.fq_model.specs.declared.config.Config.{Config}
use Rattle.fq_model.specs.declared.limits.Limits.TheVariants.{Text}
use Rattle.fq_model.specs.declared.event.Act.{Act}
use Rattle.fq_model.specs.declared.event.Act.TheVariants.{Take, Report, Done}
use Rattle.fq_model.specs.declared.event.Entry.{Entry}
use Rattle.program_model.specs.declared.trace.RunOptions.{RunOptions}
use Rattle.program_model.specs.declared.trace.TraceRow.{TraceRow}
use Rattle.fq_model.specs.History.{History, Request}
use Rattle.program_model.specs.Trace.{Trace}

-- Facts about the entries of a history.

-- each entry, with the history before it, has the property
abbrev pub Each : (History → Entry → Type 0) → History → Type 0
Each Has [] = Unit {0}
Each Has (e ∷ P) = Each Has P × Has P e

-- Callers, and the scheduler that is opened.

-- the number of submitters: one more than the greatest that a row names, or 1 where there are no rows
abbrev pub submitters : List TraceRow → ℕ
submitters [] = 1
submitters (row ∷ rows) = max (row.submitter + 1) (submitters rows)

-- the caller that is worker i: workers are numbered on from the submitters
abbrev pub worker_caller : List TraceRow → ℕ → ℕ
worker_caller rows i = submitters rows + i

-- the sum of f over the rows
abbrev pub sum_over : (TraceRow → ℕ) → List TraceRow → ℕ
sum_over f [] = 0
sum_over f (row ∷ rows) = f row + sum_over f rows

-- the configuration of a trace's scheduler whose history may have this number of entries: all rows may wait at once
abbrev pub trace_config : Trace → RunOptions → ℕ → Config
trace_config T O entries = record {
  limits = Text;
  workers = O.workers;
  weights = T.weights;
  kinds = length T.kinds;
  entries = entries;
  requests = max 1 (length T.rows);
  policy = O.policy;
  estimate = O.estimate;
  initial = O.initial;
}

-- Rows as requests, and their courses.

-- the request in the Submit of row r: its label is the row's number
abbrev pub row_request : ℕ → TraceRow → Request
row_request r row = record { tenant = row.tenant; kind = row.kind; declared = row.declared; label = r }

-- the act is a Take, a Report or a Done of r
abbrev pub serves : ℕ → Act → Bool
serves r (Take worker request estimate) = request == r
serves r (Report worker request used) = request == r
serves r (Done worker request cost) = request == r
serves r _ = false

-- the entries by which r is served
abbrev pub course : History → ℕ → History
course P r = filter (λ e. serves r e.act) P

-- how many of the numbers step, 2 * step and so on are below the cost; for step 0 there are none
unfoldable pub reports_below : ℕ → ℕ → ℕ
reports_below step cost = if step == 0 then 0 else (cost - 1) / step

-- Reports of r by worker i of the uses step to k * step, the newest first, onto older acts
abbrev pub with_reports : ℕ → ℕ → ℕ → ℕ → List Act → List Act
with_reports i r step zero older = older
with_reports i r step (suc k) older = Report i r (suc k * step) ∷ with_reports i r step k older

-- how worker i serves r, the newest act first: a Take at this estimate, Reports of the uses step, 2 * step and so on
-- below the cost, and a Done at the cost
abbrev pub course_acts : ℕ → ℕ → ℕ → ℕ → ℕ → List Act
course_acts i r estimate step cost =
    Done i r cost ∷ with_reports i r step (reports_below step cost) (Take i r estimate ∷ [])
