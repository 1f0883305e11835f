-- The invariant of sums by window.
use Rattle.std.specs.Prelude.{ℕ, zero, suc, ◌≡◌, ◌<◌, ◌≤◌, ◌-◌, ◌+◌, ◌*◌, ◌^◌, List, All, slice_index, min}
use Rattle.worker_reserve.specs.declared.demand.Ended.{Ended}
use Rattle.worker_reserve.specs.declared.demand.Sums.{Sums}
use Rattle.worker_reserve.specs.Demand.{window_of, ran_in, IsPast}

-- these are the times of a window by class, as far as 64 bits hold them
abbrev pub AreSums : List Ended → ℕ → List ℕ → Type 0
AreSums past window sums = (class : ℕ) → class < 30
    → slice_index sums class ≡ min (ran_in past window class) (2 ^ 64 - 1)

-- the sums are those of the latest window and of the one before, and nothing ended later
pub record HasWindows (past : List Ended) (s : Sums) : Type 0 where
  pub over : All (λ e. window_of e.moment ≤ s.latest) past
  pub sums : AreSums past s.latest s.current
  pub older : AreSums past (s.latest - 1) s.previous

-- and something ended in the latest window, if anything did
pub record Keeps (past : List Ended) (s : Sums) : Type 0 where
  pub windows : HasWindows past s
  pub reached : (moment : ℕ) → IsPast past moment → s.latest ≤ window_of moment

-- the sums of the classes below one, of which a part of the older window counts
unfoldable pub weighed : Sums → ℕ → ℕ → ℕ
weighed s part zero = 0
weighed s part (suc class) =
    weighed s part class + (slice_index s.previous class * part + slice_index s.current class * 131072)
