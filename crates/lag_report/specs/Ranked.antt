-- The place of a sample where samples stand in order, and the samples at the ranks that a report names.
use Rattle.std.specs.Prelude.{ℕ, ◌≡◌, List, ◌∷◌, ◌++◌, length, ℤ, ◌≤ℤ◌, All}
use Rattle.std.specs.List.Sorted.{IsPermutation}
use Rattle.fq_model.specs.Ranks.{least_sample, percentile, greatest_sample}
use Rattle.lag_report.specs.declared.samples.Ranked.{Ranked}

-- x stands at this place, counted from 0, where samples stand in order: none before it is greater, and none after it,
-- which are these in any order, is less
pub record StandsAt (samples : List ℤ) (at : ℕ) (x : ℤ) (after : List ℤ) : Type 0 where
  pub before : List ℤ
  pub same : IsPermutation samples (before ++ x ∷ after)
  pub place : length before ≡ at
  pub low : All (λ y. y ≤ℤ x) before
  pub high : All (λ y. x ≤ℤ y) after

-- the samples at the ranks that a report names
abbrev pub ranked : List ℤ → Ranked
ranked samples = record {
  least = least_sample samples;
  p50 = percentile 50 samples;
  p90 = percentile 90 samples;
  p99 = percentile 99 samples;
  greatest = greatest_sample samples;
}
