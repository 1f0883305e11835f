use Rattle.service_laws.proofs.Rest.{rests_for_cause}
use Rattle.service_laws.proofs.laws.rests_for_cause.Goals as goal

pub returns : goal.returns
returns c = rests_for_cause
