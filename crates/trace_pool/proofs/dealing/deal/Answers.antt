use Rattle.std.proofs.Common.{arith}
use Rattle.trace_pool.specs.Parts.{AreRowsOf}
use Rattle.trace_pool.proofs.Places.{holds_pushed}
use Rattle.trace_pool.proofs.dealing.deal.Goals as goal

pub loop-number-preserved : goal.loop-number-preserved
loop-number-preserved c = let was = c.loop-number.invariant in let pushed = c.push_reserved.ensures in record {
  dealt = holds_pushed (λ j q. AreRowsOf c.args.rows.now j q.items) c.loop-number.number c.loop-number.queues.items _ _ was.dealt pushed.items (omega (arith, was.count)) c.in_ok-rows_of.ensures;
  count = omega (arith, pushed.len, was.count);
  room = omega (arith, pushed.capacity, was.room);
}
