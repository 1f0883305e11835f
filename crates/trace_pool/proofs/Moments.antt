-- Moments that a clock tells, by callers and of all.
use Rattle.std.proofs.Common.{◌≡◌, ℕ, [], ◌∷◌, ◌++◌, refl, arith}
use Rattle.fq_model.specs.History.{History}
use Rattle.fq_model.specs.Outcome.{own_entries}
use Rattle.program_model.specs.PoolHistory.{HasToldMoments}
use Rattle.worker_gate.specs.Moments.{HasToldMomentsFrom}
use Rattle.trace_pool.proofs.Callers.{not_by, none_older}

-- entries of other callers change nothing
pub told_beyond : (Tells : ℕ → Type 0) (j : ℕ) (newer P : History) → own_entries newer j ≡ [] → HasToldMomentsFrom Tells j 0 P → HasToldMomentsFrom Tells j 0 (newer ++ P)
told_beyond Tells j [] P none h = h
told_beyond Tells j (e ∷ newer) P none h = (told_beyond Tells j newer P (none_older e newer j none) h, λ by _. absurd (not_by e newer j none by))

pub told_of_nobody : (Tells : ℕ → Type 0) (j : ℕ) (H : History) → own_entries H j ≡ [] → HasToldMomentsFrom Tells j 0 H
told_of_nobody Tells j [] none = tt
told_of_nobody Tells j (e ∷ P) none = (told_of_nobody Tells j P (none_older e P j none), λ by _. absurd (not_by e P j none by))

-- where each caller's entries are at moments that the clock tells, all entries are
pub told_of_all : (Tells : ℕ → Type 0) (H : History) → ((j : ℕ) → HasToldMomentsFrom Tells j 0 H) → HasToldMoments Tells H
told_of_all Tells [] h = tt
told_of_all Tells (e ∷ P) h = (told_of_all Tells P (λ j. (h j).0), (h e.who).1 refl (omega arith))
