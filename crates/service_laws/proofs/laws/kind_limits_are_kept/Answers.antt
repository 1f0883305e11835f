use Rattle.service_laws.proofs.KindLimits.{kind_limits_are_kept}
use Rattle.service_laws.proofs.laws.kind_limits_are_kept.Goals as goal

pub returns : goal.returns
returns c = kind_limits_are_kept
