use Rattle.request_limits.proofs.Orders.{passing_keeps_limits}
use Rattle.request_limits.proofs.laws.passing_keeps_limits.Goals as goal

pub returns : goal.returns
returns c = passing_keeps_limits
