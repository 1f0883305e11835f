-- The source over memory that never fails, and the sink over memory that fails only where it is full.
use Rattle.std.specs.Prelude.{ℕ, ◌-◌, ◌<◌, ◌≤◌, ◌≡◌, min, List, ◌++◌, length, take, Result, Ok, Err}
use Rattle.fq_io.specs.Faults.{next_count}

-- the bytes that the sink took, how many fit in all, and how many faults there were
pub record CleanMemory : Type 0 where
  pub written : List ℕ
  pub room : ℕ
  pub faults : ℕ

-- the invariant of such a sink: no more is written than fits, and there is no fault while less is
pub record IsClean (room : ℕ) (written : List ℕ) (faults : ℕ) : Type 0 where
  pub within : length written ≤ room
  pub unfailed : length written < room → faults ≡ 0

-- the exact effect of a write: it takes as many bytes as it can, and it fails where the sink is full and the piece
-- isn't empty
abbrev pub Fills : {E : Type 0} → CleanMemory → CleanMemory → List ℕ → Result ℕ E → Type 0
Fills old new piece (Ok n) =
    (n ≡ min (old.room - length old.written) (length piece))
    × (new ≡ record old { written = old.written ++ take n piece })
Fills old new piece (Err e) =
    (length old.written ≡ old.room) × (0 < length piece) × (new ≡ record old { faults = next_count old.faults })
