use Rattle.service_laws.proofs.Deadlines.{no_grant_is_late}
use Rattle.service_laws.proofs.laws.no_grant_is_late.Goals as goal

pub returns : goal.returns
returns c = no_grant_is_late
