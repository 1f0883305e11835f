-- A worker of a pool serves the rows of its requests.
use Rattle.std.proofs.Common.{◌≡◌, ◌<◌, ◌≤◌, ◌*◌, min, ℕ, zero, suc, List, [], ◌∷◌, ◌++◌, length, map, refl, sym, ap, ◌∙◌, arith}
use Rattle.vt_fixed.specs.declared.limits.TheConstants.{GREATEST_COST}
use Rattle.fq_model.specs.declared.event.Act.{Act}
use Rattle.fq_model.specs.declared.event.Act.TheVariants.{Take, Report, Done}
use Rattle.program_model.specs.declared.trace.RunOptions.{RunOptions}
use Rattle.program_model.specs.Courses.{worker_caller, reports_below, with_reports, course_acts}
use Rattle.fq_model.specs.History.{History}
use Rattle.fq_model.specs.Limits.{InLimits}
use Rattle.program_model.specs.RunLimits.{AreInRange}
use Rattle.fq_model.specs.Outcome.{own_entries}
use Rattle.program_model.specs.PoolHistory.{pool_config, step_of, Served, AllCameFromRows, courses_acts, IsServing}
use Rattle.program_model.specs.Trace.{Trace}
use Rattle.program_model.specs.TraceText.{IsLawfulTrace, IsLawfulRow}
use Rattle.gate_rules.specs.declared.counters.Counters.{Counters}
use Rattle.gate_rules.specs.Rules.{work_cost}
use Rattle.worker_gate.specs.Running.{Use, JobRun, with_uses, with_run, with_runs, uses_after, FollowsCourse}
use Rattle.gate_rules.specs.Slices.{counters_after}
use Rattle.gate_rules.specs.Stepping.{step_course, CountsUp, work_only}
use Rattle.gate_rules.proofs.Stepping.{course_counters, steps_count_up}
use Rattle.trace_pool.proofs.Labels.{AllRunRows, follows_few, run_rows}
use Rattle.trace_pool.proofs.Parts.{PoolParts}
use Rattle.trace_pool.proofs.Refused.{lawful_row}
use Rattle.trace_pool.proofs.Room.{all_kept}
use Rattle.trace_pool.proofs.Runs.{AreKept, AllKept}

reports_more : (i r step k : ℕ) (older rest : List Act) → with_reports i r step k older ++ rest ≡ with_reports i r step k (older ++ rest)
reports_more i r step zero older rest = refl
reports_more i r step (suc k) older rest = ap (λ l. Report i r (suc k * step) ∷ l) (reports_more i r step k older rest)

-- uses that are kept are reported, each at its step
uses_reported : (course : List Counters) (step i r k : ℕ) (uses : List Use) (older : List Act) → AreKept uses → map (λ u. u.used) uses ≡ uses_after work_cost course k → ((n : ℕ) → n < k → work_cost (counters_after course n) ≡ suc n * step) → with_uses i r uses older ≡ with_reports i r step k older
uses_reported course step i r zero [] older kept are at = refl
uses_reported course step i r zero (u ∷ uses) older kept are at = absurd (cc)
uses_reported course step i r (suc k) [] older kept are at = absurd (cc)
uses_reported course step i r (suc k) (u ∷ uses) older kept are at =
    let first : u.used ≡ work_cost (counters_after course k) = cc in
    let rest : map (λ x. x.used) uses ≡ uses_after work_cost course k = cc in
    let now : u.used ≡ suc k * step = first ∙ at k (omega arith) in
    let more : with_uses i r uses older ≡ with_reports i r step k older = uses_reported course step i r k uses older kept.1 rest (λ n h. at n (omega arith)) in
    rw kept.0 (ap (λ n. Report i r n ∷ with_uses i r uses older) now ∙ ap (λ l. Report i r (suc k * step) ∷ l) more)

-- the use that is reported after slice n is n + 1 steps
use_at : (step cost n : ℕ) → cost ≤ GREATEST_COST → CountsUp step cost → n < reports_below step cost → work_cost (counters_after (step_course step cost) n) ≡ suc n * step
use_at step cost n high c h =
    let is : counters_after (step_course step cost) n ≡ work_only (suc n * step) = c.reported n h in
    let low : min cost (suc n * step) ≡ suc n * step = ap (λ x. x.work) (sym (course_counters step cost n (omega arith)) ∙ is) in
    ap work_cost is ∙ omega (arith, low, high)

run_acts : (i : ℕ) (step cost : ℕ) (run : JobRun) (older : List Act) → cost ≤ GREATEST_COST → CountsUp step cost → FollowsCourse work_cost (step_course step cost) run → AreKept run.uses → with_run i run older ≡ course_acts i run.request run.estimate step cost ++ older
run_acts i step cost run older high c f kept =
    let r : ℕ = run.request in
    let k : ℕ = reports_below step cost in
    let whole : work_cost (work_only cost) ≡ cost = omega (arith, high) in
    let paid : run.cost ≡ cost = f.cost_is ∙ (ap work_cost c.total_is ∙ whole) in
    let used : map (λ u. u.used) run.uses ≡ uses_after work_cost (step_course step cost) k = f.uses_are ∙ ap (uses_after work_cost (step_course step cost)) (follows_few step cost run f) in
    let reported : with_uses i r run.uses (Take i r run.estimate ∷ older) ≡ with_reports i r step k (Take i r run.estimate ∷ older) = uses_reported (step_course step cost) step i r k run.uses (Take i r run.estimate ∷ older) kept used (λ n h. use_at step cost n high c h) in
    let split : with_reports i r step k (Take i r run.estimate ∷ older) ≡ with_reports i r step k (Take i r run.estimate ∷ []) ++ older = sym (reports_more i r step k (Take i r run.estimate ∷ []) older) in
    ap (λ n. Done i r n ∷ with_uses i r run.uses (Take i r run.estimate ∷ older)) paid ∙ ap (λ l. Done i r cost ∷ l) (reported ∙ split)

module _ (T : Trace) (O : RunOptions) (H : History) where
  -- the requests of runs
  abbrev served_runs : (runs : List JobRun) → AllRunRows T O H runs → List Served
  served_runs [] x = []
  served_runs (run ∷ runs) x = record { request = run.request; estimate = run.estimate; row = x.0.row } ∷ served_runs runs x.1

  from_rows : (runs : List JobRun) (x : AllRunRows T O H runs) → AllCameFromRows T H (served_runs runs x)
  from_rows [] x = tt
  from_rows (run ∷ runs) x = (record { asked = x.0.asked; asked_is = x.0.asked_is; row_is = x.0.row_is }, from_rows runs x.1)

  runs_acts : (i : ℕ) (runs : List JobRun) (x : AllRunRows T O H runs) → IsLawfulTrace T → O.refresh ≤ GREATEST_COST → AllKept runs → with_runs i runs [] ≡ courses_acts O.refresh i (served_runs runs x)
  runs_acts i [] x law small kept = refl
  runs_acts i (run ∷ runs) x law small kept =
      let lawful : IsLawfulRow (length T.tenants) (length T.kinds) x.0.row = lawful_row T law x.0.asked.label x.0.row x.0.row_is in
      let cost : ℕ = x.0.row.cost in
      let counts : CountsUp (step_of O.refresh cost) cost = steps_count_up O.refresh cost small lawful.cost.0 lawful.cost.1 in
      run_acts i (step_of O.refresh cost) cost run (with_runs i runs []) lawful.cost.1 counts x.0.follows kept.0
      ∙ ap (λ l. course_acts i run.request run.estimate (step_of O.refresh cost) cost ++ l) (runs_acts i runs x.1 law small kept.1)

pub is_serving : (T : Trace) (O : RunOptions) (Tells : ℕ → Type 0) (H : History) → IsLawfulTrace T → AreInRange O → InLimits (pool_config T O) → PoolParts T O Tells H → (i : ℕ) → i < O.workers → IsServing T O.refresh H i (own_entries H (worker_caller T.rows i))
is_serving T O Tells H law range lim p i h =
    let w = p.served i h in
    let x : AllRunRows T O H w.runs = run_rows T O Tells H p (worker_caller T.rows i) i w.seen w.runs w.sees w.runs_are in
    record {
      requests = served_runs T O H w.runs x;
      acts_are = w.acts_are ∙ runs_acts T O H i w.runs x law range.refresh (all_kept T O Tells H lim p i h w);
      from_rows = from_rows T O H w.runs x;
    }
