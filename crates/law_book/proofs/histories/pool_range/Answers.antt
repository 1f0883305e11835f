use Rattle.fq_laws.proofs.History.Weights.{pool_low, pool_high}
use Rattle.law_book.proofs.histories.pool_range.Goals as goal

pub returns : goal.returns
returns c = λ C P lim l. (pool_low C P lim l, pool_high C P l)
