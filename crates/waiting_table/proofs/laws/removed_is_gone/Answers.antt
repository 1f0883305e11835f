use Rattle.waiting_table.proofs.Found.{removed_is_gone}
use Rattle.waiting_table.proofs.laws.removed_is_gone.Goals as goal

pub returns : goal.returns
returns c = removed_is_gone
