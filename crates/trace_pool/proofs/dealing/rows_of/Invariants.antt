use Rattle.trace_pool.proofs.Deals.{IsDealtTo}
use Rattle.trace_pool.proofs.dealing.rows_of.Given as goal

abbrev pub invariant-loop-job : goal.invariant-loop-job
invariant-loop-job l = IsDealtTo l.rows l.number l.job l.queue.items
