use Rattle.trace_pool.proofs.Ends.{pool_moments}
use Rattle.law_book.proofs.pools.pool_moments_are.Goals as goal

pub returns : goal.returns
returns g c = pool_moments (g.K.Clock.tells c.args.clock.now)
