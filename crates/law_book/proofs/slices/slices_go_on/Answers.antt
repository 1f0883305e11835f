use Rattle.gate_rules.proofs.Slices.{slices_go_on}
use Rattle.law_book.proofs.slices.slices_go_on.Goals as goal

pub returns : goal.returns
returns c = slices_go_on
