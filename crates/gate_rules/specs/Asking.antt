-- The slices of a job that a gate is asked for.
use Rattle.std.specs.Prelude.{◌≡◌, ℕ, suc, List, [], ◌∷◌, length}
use Rattle.fq_model.specs.declared.limits.TheConstants.{MOST_SLICES}
use Rattle.gate_rules.specs.declared.counters.Counters.{Counters}
use Rattle.gate_rules.specs.declared.counters.TheConstants.{NO_COUNTERS}
use Rattle.gate_rules.specs.declared.gate.Slice.{Slice}
use Rattle.gate_rules.specs.declared.gate.Slice.TheVariants.{More, End}
use Rattle.gate_rules.specs.declared.logged_gate.Asked.{Asked}

-- the gate was asked for slice `number` of the job with this label, was handed these counters, and answered so
abbrev pub asked_for : ℕ → ℕ → Counters → Slice → Asked
asked_for label number last answer = record { label = label; number = number; last = last; answer = answer }

-- the counters of the newest slice, where the slices came to these, the newest first
abbrev pub newest : List Counters → Counters
newest [] = NO_COUNTERS
newest (counters ∷ before) = counters

-- the next slice of a job after slices that came to these counters, and its answer
abbrev pub asked_next : ℕ → List Counters → Slice → Asked
asked_next label before answer = asked_for label (length before) (newest before) answer

-- slices 0, 1 and so on of a job, each of which goes on and comes to these counters, the newest first, onto an older
-- log
abbrev pub with_more : ℕ → List Counters → List Asked → List Asked
with_more label [] older = older
with_more label (counters ∷ before) older =
    asked_next label before (More counters) ∷ with_more label before older

-- all slices of a job: those that go on, and the last
abbrev pub with_slices : ℕ → List Counters → Slice → List Asked → List Asked
with_slices label mores last older = asked_next label mores last ∷ with_more label mores older

-- after this answer to slice k no further slice is asked: it is an End, or there may be no further slice
abbrev pub IsLast : ℕ → Slice → Type 0
IsLast k (More counters) = suc k ≡ MOST_SLICES
IsLast k (End counters) = Unit {0}
