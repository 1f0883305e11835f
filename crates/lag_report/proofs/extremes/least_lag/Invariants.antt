use Rattle.std.proofs.Common.{ℕ, ◌<◌, length, get_or, ◌≤ℤ◌}
use Rattle.lag_report.proofs.Texts.{no_row}
use Rattle.lag_report.proofs.extremes.least_lag.Given as goal

abbrev pub invariant-loop-k : goal.invariant-loop-k
invariant-loop-k l = record {
  inside : l.place < length l.rows;
  best : (j : ℕ) → j < l.k → (get_or l.rows l.place no_row).least ≤ℤ (get_or l.rows j no_row).least;
}
