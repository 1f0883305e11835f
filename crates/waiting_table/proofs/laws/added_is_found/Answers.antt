use Rattle.waiting_table.proofs.Found.{added_is_found}
use Rattle.waiting_table.proofs.laws.added_is_found.Goals as goal

pub returns : goal.returns
returns c = added_is_found
