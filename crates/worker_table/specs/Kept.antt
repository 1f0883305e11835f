-- The invariant of a table of workers.
use Rattle.std.specs.Prelude.{ℕ, ◌≡◌, ◌<◌, ◌≤◌, ◌*◌, ◌/◌, ◌%◌, List, Option, is_none, if◌then◌else◌, length, slice_index}
use Rattle.std.specs.Int.{bit_at}
use Rattle.worker_table.specs.Table.{run_of, running}

-- a bit for each worker, 64 a word, which is set if the worker is free
pub record AreWords {R : Type 0} (table : List (Option R)) (words : List ℕ) : Type 0 where
  pub enough : length table ≤ 64 * length words
  pub bits : (worker : ℕ) → worker < length table
      → bit_at (slice_index words (worker / 64)) (worker % 64) ≡ (if is_none (run_of table worker) then 1 else 0)

-- and the workers that run something are counted
pub record Keeps {R : Type 0} (table : List (Option R)) (free : List ℕ) (count : ℕ) : Type 0 where
  pub marks : AreWords table free
  pub count_is : count ≡ running table
  pub few : length table ≤ 4096
