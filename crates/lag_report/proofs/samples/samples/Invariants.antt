use Rattle.std.proofs.Common.{◌≡◌, ◌≤◌, length, take, sum, vec_capacity}
use Rattle.fq_model.specs.Sums.{list_below}
use Rattle.lag_report.specs.Work.{sample_at}
use Rattle.lag_report.proofs.samples.samples.Given as goal

abbrev pub invariant-loop-k : goal.invariant-loop-k
invariant-loop-k l = record {
  work : l.work ≡ sum (take l.k l.gains);
  samples : l.samples.items ≡ list_below (sample_at l.served (λ k. sum (take k l.gains))) l.k;
  room : length l.served ≤ vec_capacity l.samples;
}
