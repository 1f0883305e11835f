use Rattle.history_lock.proofs.Turned.{own_turned}
use Rattle.history_lock.proofs.laws.own_turns_round.Goals as goal

pub returns : goal.returns
returns c = own_turned
