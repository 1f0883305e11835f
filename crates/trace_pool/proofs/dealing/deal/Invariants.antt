use Rattle.std.proofs.Common.{◌≡◌, ◌≤◌, length}
use Rattle.std.specs.Prelude.{vec_capacity}
use Rattle.trace_pool.specs.Parts.{AreRowsOf}
use Rattle.trace_pool.specs.Places.{HoldsFrom}
use Rattle.trace_pool.proofs.dealing.deal.Given as goal

abbrev pub invariant-loop-number : goal.invariant-loop-number
invariant-loop-number l = record { dealt : HoldsFrom (λ j q. AreRowsOf l.rows j q.items) 0 l.queues.items; count : length l.queues.items ≡ l.number; room : l.submitters ≤ vec_capacity l.queues }
