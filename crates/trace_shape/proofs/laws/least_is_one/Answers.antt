use Rattle.trace_shape.proofs.Least.{least_is_one}
use Rattle.trace_shape.proofs.laws.least_is_one.Goals as goal

pub returns : goal.returns
returns c = least_is_one
