-- The published policies and all estimators on one trace.
use Rattle.std.specs.Prelude.{ℕ, ◌≡◌, ◌-ℤ◌, ℤ, int_le, Bool, List, [], ◌∷◌, position, unwrap_or}
use Rattle.std.specs.List.{list_all, AllZip}
use Rattle.fq_model.specs.declared.config.Config.{Config}
use Rattle.fq_model.specs.declared.config.Policy.{Policy}
use Rattle.fq_model.specs.declared.config.Policy.TheVariants.{Wfq, Wf2q, Msf2q, TwoDfq}
use Rattle.fq_model.specs.declared.config.Estimator.{Estimator}
use Rattle.fq_model.specs.declared.config.Estimator.TheVariants.{Declared, Recent, Pessimistic}
use Rattle.program_model.specs.declared.trace.RunOptions.{RunOptions}
use Rattle.program_model.specs.declared.compare.CompareOptions.{CompareOptions}
use Rattle.program_model.specs.declared.compare.CompareRow.{CompareRow}
use Rattle.fq_model.specs.History.{History}
use Rattle.program_model.specs.Trace.{Trace}
use Rattle.program_model.specs.Simulated.{run_config, IsSimulated}
use Rattle.fq_model.specs.Report.{LagReport, lag_report, slot_for, least_lag, greatest_lag}

-- a policy and each estimator, before further pairs
abbrev pub pairs_of : Policy → List (Policy × Estimator) → List (Policy × Estimator)
pairs_of policy others = (policy, Declared) ∷ (policy, Recent) ∷ (policy, Pessimistic) ∷ others

-- the twelve pairs of a published policy and an estimator, in order
abbrev pub all_pairs : List (Policy × Estimator)
all_pairs = pairs_of Wfq (pairs_of Wf2q (pairs_of Msf2q (pairs_of TwoDfq [])))

-- the options of a run of a trace under one pair
abbrev pub run_options : CompareOptions → Policy × Estimator → RunOptions
run_options o pair = record {
  workers = o.workers;
  policy = pair.0;
  estimate = pair.1;
  initial = o.initial;
  refresh = o.refresh;
}

-- the row of a pair, from its report
abbrev pub row_of_report : Policy × Estimator → LagReport → CompareRow
row_of_report pair report = record {
  policy = pair.0;
  estimate = pair.1;
  end = report.end;
  entries = report.entries;
  least = least_lag report.rows;
  greatest = greatest_lag report.rows;
}

-- the row of a pair whose history under C is H; where slot 0 is asked for it has its own automatic slot
abbrev pub row_of_history : Policy × Estimator → Config → History → ℕ → CompareRow
row_of_history pair C H asked = row_of_report pair (lag_report C H (slot_for C H asked))

-- the row is that of the simulated history of the trace under the pair
pub record IsCompared (T : Trace) (o : CompareOptions) (pair : Policy × Estimator) (row : CompareRow) : Type 0 where
  pub history : History
  pub simulated : IsSimulated T (run_options o pair) history
  pub row_is : row ≡ row_of_history pair (run_config T (run_options o pair)) history o.slot

-- the rows are those of all pairs, in order
abbrev pub AreCompared : Trace → CompareOptions → List CompareRow → Type 0
AreCompared T o rows = AllZip (IsCompared T o) all_pairs rows

-- how far the lags of a row lie apart
abbrev pub spread : CompareRow → ℤ
spread row = row.greatest -ℤ row.least

-- the spread of no row is less than that of this
abbrev pub has_least_spread : List CompareRow → CompareRow → Bool
has_least_spread rows row = list_all (λ other. int_le (spread row) (spread other)) rows

-- the number of the first row of least spread, or 0 where there is none
abbrev pub best : List CompareRow → ℕ
best rows = unwrap_or (position (has_least_spread rows) rows) 0
