use Rattle.waiting_table.proofs.Found.{forwarded_is_found}
use Rattle.waiting_table.proofs.laws.forwarded_is_found.Goals as goal

pub returns : goal.returns
returns c = forwarded_is_found
