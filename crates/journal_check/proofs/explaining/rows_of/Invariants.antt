use Rattle.std.proofs.Common.{take}
use Rattle.program_model.specs.Explanations.{AreRows}
use Rattle.journal_check.proofs.explaining.rows_of.Given as goal

abbrev pub invariant-loop-head : goal.invariant-loop-head
invariant-loop-head l = AreRows l.turn (take l.head-index l.heads) l.rows.items
