use Rattle.std.proofs.Common.{◌≡◌, ◌++◌, length}
use Rattle.std.specs.Prelude.{vec_capacity}
use Rattle.trace_pool.specs.Tokens.{submitters_in, workers_in, readers_in, statuses_in}
use Rattle.trace_pool.proofs.hands.take_back.Given as goal

abbrev pub invariant-loop-hands : goal.invariant-loop-hands
invariant-loop-hands l = record {
  submitters : l.tokens.submitters.items ++ submitters_in l.hands.items ≡ submitters_in l.initial.hands.items;
  workers : l.tokens.workers.items ++ workers_in l.hands.items ≡ workers_in l.initial.hands.items;
  readers : l.tokens.readers.items ++ readers_in l.hands.items ≡ readers_in l.initial.hands.items;
  statuses : statuses_in l.tokens.statuses.items l.hands.items ≡ statuses_in l.initial.tokens.statuses.items l.initial.hands.items;
  first_room : vec_capacity l.tokens.submitters ≡ vec_capacity l.initial.tokens.submitters;
  second_room : vec_capacity l.tokens.workers ≡ vec_capacity l.initial.tokens.workers;
  third_room : vec_capacity l.tokens.readers ≡ vec_capacity l.initial.tokens.readers;
}

abbrev pub decreases-loop-hands : goal.decreases-loop-hands
decreases-loop-hands l = length l.hands.items
