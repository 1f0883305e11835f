use Rattle.std.proofs.Common.{refl}
use Rattle.vt_fixed.specs.Rounding.{part_of}
use Rattle.shared_order.proofs.examples.rounded_once.Goals as goal

pub returns-clause-key : goal.returns-clause-key
unfolding part_of
returns-clause-key c = refl
