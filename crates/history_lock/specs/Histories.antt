-- Histories as contracts see them here: entries in order of time.
use Rattle.std.specs.Prelude.{◌≡◌, ◌⊎◌, ℕ, List, [], ◌∷◌, ◌++◌, length, nat_le, if◌then◌else◌}
use Rattle.fq_model.specs.declared.event.Entry.{Entry}

-- the first is a prefix of the second
abbrev pub IsPrefix : List Entry → List Entry → Type 0
IsPrefix front P = (rest : List Entry) × (P ≡ front ++ rest)

-- P2 is P, or P and one entry more, whose caller is who
abbrev pub Grows : ℕ → List Entry → List Entry → Type 0
Grows who P P2 = (P2 ≡ P) ⊎ ((e : Entry) × (P2 ≡ P ++ e ∷ []) × (e.who ≡ who))

-- P2 is P, or P and one entry of this caller more, which the caller's own entries have gained
abbrev pub Gains : ℕ → List Entry → List Entry → List Entry → List Entry → Type 0
Gains who P P2 mine mine2 =
    ((P2 ≡ P) × (mine2 ≡ mine)) ⊎ ((e : Entry) × (P2 ≡ P ++ e ∷ []) × (mine2 ≡ mine ++ e ∷ []) × (e.who ≡ who))

-- the longer of two, and of two of one length the second
abbrev pub longer : List Entry → List Entry → List Entry
longer P Q = if nat_le (length P) (length Q) then Q else P
