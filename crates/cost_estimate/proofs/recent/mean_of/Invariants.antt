use Rattle.std.proofs.Common.{◌≡◌, ◌≤◌, ◌*◌, take, sum}
use Rattle.cost_estimate.proofs.recent.mean_of.Given as goal

abbrev pub invariant-loop-i : goal.invariant-loop-i
invariant-loop-i l = record { total : l.total ≡ sum (take l.i l.ring.items); bound : l.total ≤ l.i * 1000000000 }
