use Rattle.std.proofs.Common.{take, All, Contains, ◌≤ℤ◌}
use Rattle.lag_report.proofs.samples.least.Given as goal

abbrev pub invariant-loop-sample : goal.invariant-loop-sample
invariant-loop-sample l = record {
  one : Contains l.samples l.least;
  low : All (λ x. l.least ≤ℤ x) (take l.sample-index l.samples);
}
