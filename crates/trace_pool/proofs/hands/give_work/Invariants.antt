use Rattle.std.proofs.Common.{◌+◌, ◌≡◌, ◌≤◌, length, List, ◌++◌}
use Rattle.std.specs.Prelude.{vec_capacity}
use Rattle.trace_pool.specs.Hands.{TraceHand}
use Rattle.desk.specs.Opening.{AreWorkers}
use Rattle.trace_pool.specs.Parts.{IsWorkOf}
use Rattle.trace_pool.specs.Places.{HoldsFrom}
use Rattle.trace_pool.proofs.hands.give_work.Given as goal

abbrev pub invariant-loop-hands : goal.invariant-loop-hands
invariant-loop-hands g l = record {
  works : (given : List TraceHand) × (l.hands.items ≡ l.initial.hands.items ++ given) × HoldsFrom (IsWorkOf l.rows l.desk.lock) 0 given × AreWorkers l.desk.lock (length given) l.workers.items;
  all : length l.hands.items + length l.workers.items ≡ length l.initial.hands.items + length l.initial.workers.items;
  room : vec_capacity l.hands ≡ vec_capacity l.initial.hands;
  kept : length l.initial.workers.items ≤ vec_capacity l.workers;
  gate : l.gate ≡ l.initial.gate;
}

abbrev pub decreases-loop-hands : goal.decreases-loop-hands
decreases-loop-hands g l = goal.left-loop-hands g l
