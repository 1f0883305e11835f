-- What each worker runs, and which are free.
use Rattle.std.specs.Prelude.{ℕ, ◌≡◌, ◌<◌, ◌≤◌, List, Option, None, Some, is_some, slice_get, slice_index_or}
use Rattle.std.specs.List.{count_by}

module _ {R : Type 0} where
  -- what a worker runs, if there is such a worker and it runs something
  abbrev pub run_of : List (Option R) → ℕ → Option R
  run_of table worker = slice_index_or table worker None

  -- how many workers run something
  abbrev pub running : List (Option R) → ℕ
  running table = count_by is_some table

  -- there is such a worker, and it runs nothing
  abbrev pub IsFree : List (Option R) → ℕ → Type 0
  IsFree table worker = slice_get table worker ≡ Some None

  -- of the free workers from this one on, and below that one, this is the first
  pub record IsNextFree (table : List (Option R)) (from below worker : ℕ) : Type 0 where
    pub reached : from ≤ worker
    pub within : worker < below
    pub free : IsFree table worker
    pub before : (other : ℕ) → from ≤ other → other < worker → ¬ IsFree table other

  -- no worker from this one on, and below that one, is free
  abbrev pub NoneIsFree : List (Option R) → ℕ → ℕ → Type 0
  NoneIsFree table from below = (worker : ℕ) → from ≤ worker → worker < below → ¬ IsFree table worker
