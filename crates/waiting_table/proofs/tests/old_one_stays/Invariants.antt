use Rattle.std.proofs.Common.{◌≡◌}
use Rattle.waiting_table.proofs.tests.old_one_stays.Given as goal

abbrev pub invariant-loop-k : goal.invariant-loop-k
invariant-loop-k g l = l.table.room ≡ 3
