use Rattle.std.proofs.Common.{◌+◌, ◌-◌, ◌≤◌, length}
use Rattle.std.specs.Prelude.{vec_capacity}
use Rattle.worker_gate.specs.Watching.{Watched}
use Rattle.worker_gate.proofs.watch.watch.Given as goal

abbrev pub invariant-loop-left : goal.invariant-loop-left
invariant-loop-left l = record {
  watched : Watched l.board (l.initial.left - l.left) l.initial.reader l.reader l.initial.seen.items l.seen.items;
  room : length l.seen.items + l.left ≤ vec_capacity l.seen;
  fewer : l.left ≤ l.initial.left;
}

abbrev pub decreases-loop-left : goal.decreases-loop-left
decreases-loop-left l = l.left
