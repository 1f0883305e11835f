use Rattle.std.proofs.Common.{◌+◌, ◌≡◌, ◌≤◌, length}
use Rattle.std.specs.Prelude.{vec_capacity}
use Rattle.desk.specs.Opening.{AreSubmitters, HasMade}
use Rattle.trace_pool.specs.Parts.{AreRowsOf, IsFeedOf}
use Rattle.trace_pool.specs.Places.{HoldsFrom}
use Rattle.trace_pool.proofs.hands.give_rows.Given as goal

abbrev pub invariant-loop-hands : goal.invariant-loop-hands
invariant-loop-hands g l = record {
  feeds : HoldsFrom (IsFeedOf l.rows l.desk.lock) 0 l.hands.items;
  tokens : AreSubmitters l.desk.lock (length l.hands.items) l.submitters.items;
  queues : HoldsFrom (λ j q. AreRowsOf l.rows j q.items) (length l.hands.items) l.queues.items;
  left : length l.queues.items ≡ length l.submitters.items;
  all : length l.hands.items + length l.submitters.items ≡ length l.initial.submitters.items;
  made : length l.hands.items ≡ 0 → HasMade (l.desk.lock.frame.submitters + l.desk.lock.frame.config.workers) l.submitters.items;
  total : l.total ≡ length l.rows;
  room : vec_capacity l.hands ≡ vec_capacity l.initial.hands;
  kept : length l.initial.submitters.items ≤ vec_capacity l.submitters;
}

abbrev pub decreases-loop-hands : goal.decreases-loop-hands
decreases-loop-hands g l = length l.submitters.items
