use Rattle.trace_pool.proofs.Ends.{pool_history}
use Rattle.law_book.proofs.pools.pool_history_is.Goals as goal

pub returns : goal.returns
returns g c = pool_history (g.K.Clock.tells c.args.clock.now)
