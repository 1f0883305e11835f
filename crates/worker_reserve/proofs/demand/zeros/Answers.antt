use Rattle.std.proofs.lemmas.List.{get_or-replicate}
use Rattle.worker_reserve.proofs.demand.zeros.Goals as goal

pub returns : goal.returns
returns c = λ class h. get_or-replicate 30 class 0 0 h
