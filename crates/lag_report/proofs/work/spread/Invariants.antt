use Rattle.std.proofs.Common.{ℕ, ◌≡◌, ◌≤◌, ◌+◌, min, take, sum, length}
use Rattle.lag_report.specs.Work.{work_in}
use Rattle.lag_report.proofs.work.spread.Given as goal

abbrev pub invariant-loop-k : goal.invariant-loop-k
invariant-loop-k l = record {
  len : length l.gains ≡ length l.fn.gains;
  low : l.first ≤ l.k;
  before : l.before ≡ work_in l.slot l.k l.course;
  gained : (k : ℕ) → k ≤ length l.fn.gains → sum (take k l.gains) ≡ sum (take k l.fn.gains) + work_in l.slot (min k l.k) l.course;
}
