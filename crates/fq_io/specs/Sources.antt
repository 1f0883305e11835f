-- The change that reading makes to the bytes still to come, where a source tells them.
use Rattle.std.specs.Prelude.{◌≡◌, ℕ, ◌+◌, ◌<◌, ◌≤◌, ◌↔◌, List, [], ◌++◌, length, take, drop, Option, None, Some, Result, Ok, Err}
use Rattle.fq_io.specs.Faults.{Rose}
use Rattle.fq_io.specs.declared.reading.ReadAllFault.{ReadAllFault}
use Rattle.fq_io.specs.declared.reading.ReadAllFault.TheVariants.{ReadFault, TooLong, NoMemory}

-- n of the bytes xs moved to a buffer's front, ys are left, and the rest of the buffer is as it was
pub record Moves (xs ys : List ℕ) (n : ℕ) (before after : List ℕ) : Type 0 where
  pub within : n ≤ length xs
  pub left : ys ≡ drop n xs
  pub buffer : after ≡ take n xs ++ drop n before
  pub none_at_end : 0 < length before → (n ≡ 0) ↔ (xs ≡ [])

-- a read, where the bytes are known: they stay known, and a read that fails changes nothing
abbrev pub Reads : {E : Type 0} → Option (List ℕ) → Option (List ℕ) → Result ℕ E → List ℕ → List ℕ → Type 0
Reads None new result before after = Unit {0}
Reads (Some xs) None result before after = ⊥
Reads (Some xs) (Some ys) (Ok n) before after = Moves xs ys n before after
Reads (Some xs) (Some ys) (Err e) before after = (ys ≡ xs) × (after ≡ before)

-- known bytes were all read, as this list, and none is left
abbrev pub GaveAll : Option (List ℕ) → Option (List ℕ) → List ℕ → Type 0
GaveAll None new all = Unit {0}
GaveAll (Some xs) None all = ⊥
GaveAll (Some xs) (Some ys) all = (all ≡ xs) × (ys ≡ [])

-- of known bytes at most this number were taken, from the front
abbrev pub TookAtMost : Option (List ℕ) → Option (List ℕ) → ℕ → Type 0
TookAtMost None new most = Unit {0}
TookAtMost (Some xs) None most = ⊥
TookAtMost (Some xs) (Some ys) most = (n : ℕ) × (n ≤ most) × (ys ≡ drop n xs)

-- the known bytes are more than the limit, and one more than the limit was taken
abbrev pub TookTooMany : Option (List ℕ) → Option (List ℕ) → ℕ → Type 0
TookTooMany None new limit = Unit {0}
TookTooMany (Some xs) None limit = ⊥
TookTooMany (Some xs) (Some ys) limit = (limit < length xs) × (ys ≡ drop (limit + 1) xs)

-- when each fault of reading a source to its end is answered: a failed read where the faults rose, and then no more
-- bytes came than the limit; too many bytes where more are known. Want of memory may be answered at any time.
abbrev pub IsReadAllFault : Option (List ℕ) → Option (List ℕ) → ℕ → ℕ → ℕ → ReadAllFault → Type 0
IsReadAllFault old new faults_before faults_after limit ReadFault =
    Rose faults_before faults_after × TookAtMost old new limit
IsReadAllFault old new faults_before faults_after limit (TooLong n) = (n ≡ limit) × TookTooMany old new limit
IsReadAllFault old new faults_before faults_after limit NoMemory = Unit {0}
