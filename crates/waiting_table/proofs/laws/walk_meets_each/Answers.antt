use Rattle.waiting_table.proofs.Found.{walk_meets_each}
use Rattle.waiting_table.proofs.laws.walk_meets_each.Goals as goal

pub returns : goal.returns
returns c = walk_meets_each
