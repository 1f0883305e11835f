use Rattle.gate_rules.proofs.Stepping.{steps_count_up}
use Rattle.law_book.proofs.slices.steps_count_up.Goals as goal

pub returns : goal.returns
returns c = steps_count_up
