use Rattle.std.proofs.Common.{◌≡◌, ◌≤◌, ◌*◌}
use Rattle.worker_reserve.specs.Kept.{weighed}
use Rattle.worker_reserve.proofs.demand.Sums.weighed.Given as goal

abbrev pub invariant-loop-k : goal.invariant-loop-k
invariant-loop-k l = record { is : l.total ≡ weighed l.self l.part l.k; few : l.total ≤ l.k * 19342813113834066795298816 }
