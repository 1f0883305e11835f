-- Laws for a caller that reads a clean source, or writes a text to a clean sink.
use Rattle.std.specs.Prelude.{ℕ, ◌<◌, ◌≡◌, List, length, take}
use Rattle.fq_memory.specs.Clean.{IsClean}
use Rattle.fq_io.specs.Faults.{Rose}

-- the faults of a clean source, which are 0 before and after, did not rise
abbrev pub CleanSourceNeverFails : Type 0
CleanSourceNeverFails = ¬ Rose 0 0

-- where a prefix of a text, or all of it, is written in a clean sink that has more room than the text has bytes, its
-- faults did not rise above the 0 of a fresh one
abbrev pub CleanSinkNeverFails : Type 0
CleanSinkNeverFails =
    (room n faults : ℕ) (text written : List ℕ) → IsClean room written faults → length text < room
    → written ≡ take n text → ¬ Rose 0 faults
