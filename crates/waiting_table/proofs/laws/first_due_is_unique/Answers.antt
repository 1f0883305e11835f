use Rattle.waiting_table.proofs.Found.{first_due_is_unique}
use Rattle.waiting_table.proofs.laws.first_due_is_unique.Goals as goal

pub returns : goal.returns
returns c = first_due_is_unique
