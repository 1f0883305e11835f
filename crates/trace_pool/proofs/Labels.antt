-- The label of each request names a row, and a run follows the course of its row.
use Rattle.std.proofs.Common.{◌≡◌, ◌≤◌, ◌+◌, ◌==◌, ℕ, zero, suc, List, [], ◌∷◌, length, map, refl, sym, ap, ◌∙◌, subst, arith, inl, inr, Option, Some, None}
use Rattle.std.specs.Prelude.{slice_get}
use Rattle.std.proofs.lemmas.Bool.{cases_Bool}
use Rattle.fq_model.specs.declared.config.Config.{Config}
use Rattle.fq_model.specs.declared.event.Act.{Act}
use Rattle.fq_model.specs.declared.event.Act.TheVariants.{Submit}
use Rattle.fq_model.specs.declared.event.Entry.{Entry}
use Rattle.program_model.specs.declared.trace.RunOptions.{RunOptions}
use Rattle.program_model.specs.declared.trace.TraceRow.{TraceRow}
use Rattle.program_model.specs.Courses.{sum_over, reports_below}
use Rattle.fq_model.specs.History.{History, Request, request_at, request_in, history_of}
use Rattle.program_model.specs.PoolHistory.{pool_config, row_reports, step_of}
use Rattle.fq_model.specs.Rules.{IsLegal}
use Rattle.program_model.specs.Trace.{Trace}
use Rattle.gate_rules.specs.declared.counters.Counters.{Counters}
use Rattle.gate_rules.specs.Rules.{work_cost}
use Rattle.worker_gate.specs.Running.{Use, JobRun, AreRuns, IsRun, IsAsTold, FollowsCourse, uses_after, with_runs}
use Rattle.gate_rules.specs.Stepping.{step_course}
use Rattle.gate_rules.proofs.Stepping.{course_length}
use Rattle.trace_pool.specs.PoolEnd.{trace_course}
use Rattle.trace_pool.proofs.Balance.{known_weight, asked_within_history}
use Rattle.trace_pool.proofs.Parts.{acts, Sees, PoolParts}
use Rattle.trace_pool.proofs.Rows.{all_named}
use Rattle.trace_pool.proofs.Runs.{FewUses, AllWhereRoom}
use Rattle.trace_pool.proofs.Submitted.{submitted_low}
use Rattle.trace_pool.proofs.Sums.{act_sum, submit_weight}

-- ---- labels

counted_at : (g : Request → ℕ) (P : History) (a : Act) (r n : ℕ) (q : Request) → (request_at P r ≡ Some q → g q ≤ n) → request_in r a (request_at P r) ≡ Some q → g q ≤ submit_weight g a + n
counted_at g P (Submit request tenant kind declared label) r n q ih h = elim (cases_Bool (request == r)) [
  | inl e ↦ (let k : Some (record { tenant = tenant; kind = kind; declared = declared; label = label }) ≡ Some q = rw e at h in let j : record { tenant = tenant; kind = kind; declared = declared; label = label } ≡ q = cc in omega (arith, ap g j))
  | inr e ↦ omega (arith, ih (rw e at h))
]
counted_at g P _ r n q ih h = omega (arith, ih h)

-- the weight of a submitted request is part of the sum
pub asked_counted : (g : Request → ℕ) (P : History) (r : ℕ) (q : Request) → request_at P r ≡ Some q → g q ≤ act_sum (submit_weight g) (acts P)
asked_counted g [] r q h = absurd (cc)
asked_counted g (e ∷ P) r q h = counted_at g P e.act r (act_sum (submit_weight g) (acts P)) q (asked_counted g P r q) h

abbrev nameless : Option TraceRow → ℕ
nameless None = 1
nameless (Some row) = 0

named : (o : Option TraceRow) → nameless o ≡ 0 → (row : TraceRow) × (o ≡ Some row)
named None h = absurd (omega (arith, h))
named (Some row) h = (row, refl)

no_rows_nameless : (rows : List TraceRow) → sum_over (λ row. nameless (Some row)) rows ≡ 0
no_rows_nameless [] = refl
no_rows_nameless (row ∷ rows) = omega (arith, no_rows_nameless rows)

-- the number of Reports of the row's request
abbrev pub named_reports : ℕ → Option TraceRow → ℕ
named_reports refresh None = 0
named_reports refresh (Some row) = row_reports refresh row

abbrev pub label_reports : ℕ → List TraceRow → Request → ℕ
label_reports refresh rows q = named_reports refresh (slice_get rows q.label)

module _ (T : Trace) (O : RunOptions) (Tells : ℕ → Type 0) (H : History) where
  -- the row that the label of a request names
  pub row_named : PoolParts T O Tells H → (r : ℕ) (q : Request) → request_at H r ≡ Some q → (row : TraceRow) × (slice_get T.rows q.label ≡ Some row)
  row_named p r q h =
      let g : Request → ℕ = λ x. nameless (slice_get T.rows x.label) in
      named (slice_get T.rows q.label) (omega (arith, asked_counted g H r q h, submitted_low T O Tells H g p, all_named nameless T.rows, no_rows_nameless T.rows))

  -- the Reports of all rows
  pub reports_of_rows : PoolParts T O Tells H → act_sum (submit_weight (label_reports O.refresh T.rows)) (acts H) ≤ sum_over (row_reports O.refresh) T.rows
  reports_of_rows p = omega (arith, submitted_low T O Tells H (label_reports O.refresh T.rows) p, all_named (named_reports O.refresh) T.rows)

-- ---- runs

-- the request of a run, and its row
pub record RunRow (T : Trace) (O : RunOptions) (H : History) (run : JobRun) : Type 0 where
  pub asked : Request
  pub asked_is : request_at H run.request ≡ Some asked
  pub row : TraceRow
  pub row_is : slice_get T.rows asked.label ≡ Some row
  pub follows : FollowsCourse work_cost (step_course (step_of O.refresh row.cost) row.cost) run

abbrev pub AllRunRows : Trace → RunOptions → History → List JobRun → Type 0
AllRunRows T O H [] = Unit {0}
AllRunRows T O H (run ∷ runs) = RunRow T O H run × AllRunRows T O H runs

-- the course of a label that names a row is the row's course
told_so : (T : Trace) (refresh : ℕ) (row : TraceRow) (label : ℕ) (run : JobRun) → slice_get T.rows label ≡ Some row → IsAsTold work_cost (trace_course refresh T.rows label) run → FollowsCourse work_cost (step_course (step_of refresh row.cost) row.cost) run
told_so T refresh row label run is h = rw is at h

module _ (T : Trace) (O : RunOptions) (Tells : ℕ → Type 0) (H : History) (p : PoolParts T O Tells H) where
  asked_in_all : (j : ℕ) (seen : History) (r : ℕ) (q : Request) → Sees H j seen → request_at seen r ≡ Some q → request_at H r ≡ Some q
  asked_in_all j seen r q s h = subst (λ P. request_at P r ≡ Some q) (sym s.begins) (asked_within_history (pool_config T O) s.newer seen r q (subst (IsLegal (pool_config T O)) s.begins p.legal) h)

  run_row : (j i : ℕ) (seen : List Entry) (older : List Act) (run : JobRun) → Sees H j (history_of seen) → IsRun (pool_config T O) j i (trace_course O.refresh T.rows) work_cost seen older run → RunRow T O H run
  run_row j i seen older run s w =
      let q : Request = w.labelled.0 in
      let is : request_at H run.request ≡ Some q = asked_in_all j (history_of seen) run.request q s w.labelled.1 in
      let x = row_named T O Tells H p run.request q is in
      record {
        asked = q;
        asked_is = is;
        row = x.0;
        row_is = x.1;
        follows = told_so T O.refresh x.0 run.label run (ap (slice_get T.rows) (sym w.labelled.2) ∙ x.1) w.follows;
      }

  pub run_rows : (j i : ℕ) (seen : List Entry) (runs : List JobRun) → Sees H j (history_of seen) → AreRuns (pool_config T O) j i (trace_course O.refresh T.rows) work_cost seen [] runs → AllRunRows T O H runs
  run_rows j i seen [] s w = tt
  run_rows j i seen (run ∷ runs) s w = (run_row j i seen (with_runs i runs []) run s w.0, run_rows j i seen runs s w.1)

pub runs_where_room : (C : Config) (number i : ℕ) (course_of : ℕ → Option (List Counters)) (cost_of : Counters → ℕ) (seen : List Entry) (runs : List JobRun) → AreRuns C number i course_of cost_of seen [] runs → AllWhereRoom C number i seen runs
runs_where_room C number i course_of cost_of seen [] w = tt
runs_where_room C number i course_of cost_of seen (run ∷ runs) w = (w.0.kept, runs_where_room C number i course_of cost_of seen runs w.1)

-- ---- the number of uses that a run names

uses_count : (cost_of : Counters → ℕ) (course : List Counters) (k : ℕ) → length (uses_after cost_of course k) ≡ k
uses_count cost_of course zero = refl
uses_count cost_of course (suc k) = omega (arith, uses_count cost_of course k)

used_count : (uses : List Use) → length (map (λ u. u.used) uses) ≡ length uses
used_count [] = refl
used_count (u ∷ uses) = omega (arith, used_count uses)

pub follows_few : (step cost : ℕ) (run : JobRun) (f : FollowsCourse work_cost (step_course step cost) run) → f.last ≡ reports_below step cost
follows_few step cost run f = omega (arith, f.last_is, course_length step cost)

run_uses : (step cost : ℕ) (run : JobRun) → FollowsCourse work_cost (step_course step cost) run → length run.uses ≡ reports_below step cost
run_uses step cost run f =
    omega (arith, used_count run.uses, ap length f.uses_are, uses_count work_cost (step_course step cost) f.last, follows_few step cost run f)

-- the number of Reports of request r
abbrev pub number_reports : Trace → RunOptions → History → ℕ → ℕ
number_reports T O H r = known_weight (label_reports O.refresh T.rows) (request_at H r)

pub few_uses : (T : Trace) (O : RunOptions) (H : History) (runs : List JobRun) → AllRunRows T O H runs → FewUses (number_reports T O H) runs
few_uses T O H [] x = tt
few_uses T O H (run ∷ runs) x =
    let r = x.0 in
    let known : number_reports T O H run.request ≡ label_reports O.refresh T.rows r.asked = ap (known_weight (label_reports O.refresh T.rows)) r.asked_is in
    let row : label_reports O.refresh T.rows r.asked ≡ row_reports O.refresh r.row = ap (named_reports O.refresh) r.row_is in
    let few : length run.uses ≡ row_reports O.refresh r.row = run_uses (step_of O.refresh r.row.cost) r.row.cost run r.follows in
    (omega (arith, known, row, few), few_uses T O H runs x.1)
