-- The result for a pair of a policy and an estimator, and the rows of the first pairs.
use Rattle.std.specs.Prelude.{ℕ, ◌+◌, ◌<◌, ◌≡◌, true, false, List, take, length}
use Rattle.std.specs.Prelude.{slice_get, slice_index_or, All, Some, Result, Ok, Err}
use Rattle.std.specs.List.{AllZip}
use Rattle.fq_model.specs.declared.config.Config.{Config}
use Rattle.fq_model.specs.declared.config.Policy.{Policy}
use Rattle.fq_model.specs.declared.config.Estimator.{Estimator}
use Rattle.fq_model.specs.declared.config.Estimator.TheVariants.{Declared}
use Rattle.fq_model.specs.History.{History}
use Rattle.fq_model.specs.Report.{cells_of}
use Rattle.program_model.specs.declared.compare.CompareOptions.{CompareOptions}
use Rattle.program_model.specs.declared.compare.CompareRow.{CompareRow}
use Rattle.program_model.specs.CommandOptions.{estimators}
use Rattle.program_model.specs.Compare.{all_pairs, row_of_history, IsCompared}
use Rattle.program_model.specs.CompareCommand.{IsShort, IsLong}
use Rattle.program_model.specs.HistoryAnswer.{has_many_cells}
use Rattle.program_model.specs.Trace.{Trace}
use Rattle.compare_all.specs.declared.fault.CompareFault.{CompareFault}
use Rattle.compare_all.specs.declared.fault.CompareFault.TheVariants as faults
use Rattle.compare_all.specs.declared.rows.RowFault.{RowFault}
use Rattle.compare_all.specs.declared.rows.RowFault.TheVariants.{TooLong, NoMemory}

-- the result for a pair whose history under C is H, by the slot that is asked for: its row, where its report has no
-- more cells than it may, or else the number of cells; or memory ran out
abbrev pub IsMadeOf : ℕ → Policy × Estimator → Config → History → Result CompareRow RowFault → Type 0
IsMadeOf asked pair C H (Ok row) = (has_many_cells asked C H ≡ false) × (row ≡ row_of_history pair C H asked)
IsMadeOf asked pair C H (Err (TooLong cells)) = (has_many_cells asked C H ≡ true) × (cells ≡ cells_of C H asked)
IsMadeOf asked pair C H (Err NoMemory) = Unit {0}

-- the result for a pair, by the simulated history of the trace under the pair
abbrev pub IsMade : Trace → CompareOptions → Policy × Estimator → Result CompareRow RowFault → Type 0
IsMade T o pair (Ok row) = IsShort T o pair × IsCompared T o pair row
IsMade T o pair (Err (TooLong cells)) = IsLong T o cells pair
IsMade T o pair (Err NoMemory) = Unit {0}

-- the rows are those of the first pairs, none of whose reports has more cells than it may
pub record AreFirstRows (T : Trace) (o : CompareOptions) (rows : List CompareRow) : Type 0 where
  pub short : All (IsShort T o) (take (length rows) all_pairs)
  pub compared : AllZip (IsCompared T o) (take (length rows) all_pairs) rows

-- the pairs from this place on are those of the policy
abbrev pub ComesAt : ℕ → Policy → Type 0
ComesAt place policy =
    (k : ℕ) → k < 3 → slice_get all_pairs (place + k) ≡ Some (policy, slice_index_or estimators k Declared)

-- this is the fault where there is no row for this place
abbrev pub IsFaultAt : ℕ → Result CompareRow RowFault → CompareFault → Type 0
IsFaultAt place made (faults.TooManyEntries needed) = ⊥
IsFaultAt place made (faults.TooLong row cells) = (row ≡ place) × (made ≡ Err (TooLong cells))
IsFaultAt place made faults.NoMemory = Unit {0}
