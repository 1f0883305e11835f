use Rattle.trace_shape.proofs.Runs.{all_served, told_moments, told_are_least}
use Rattle.trace_shape.proofs.laws.least_is_there.Goals as goal

pub returns : goal.returns
returns c T rate burst lawful some small = (told_moments T rate burst, told_are_least T rate burst (all_served T rate burst lawful some small))
