use Rattle.service_laws.proofs.Serving.{schedulers_are_legal}
use Rattle.service_laws.proofs.laws.schedulers_are_legal.Goals as goal

pub returns : goal.returns
returns c = schedulers_are_legal
