use Rattle.trace_shape.proofs.Filling.{enough_then}
use Rattle.trace_shape.proofs.bucket.Bucket.taken.Goals as goal

pub overflow_sub-result : goal.overflow_sub-result
overflow_sub-result c = enough_then c.args.gain c.args.capacity c.args.self c.args.row.now _ _ _ c.min-level.result c.requires.gains.0 c.requires.fits c.saturating_sub.ensures c.div_ceil-wait.ensures c.max-moment.ensures c.min-level.ensures
