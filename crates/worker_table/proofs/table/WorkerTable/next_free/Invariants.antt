use Rattle.std.proofs.Common.{◌-◌, ◌≤◌}
use Rattle.worker_table.specs.Table.{NoneIsFree}
use Rattle.worker_table.proofs.table.WorkerTable.next_free.Given as goal

abbrev pub invariant-words : goal.invariant-words
invariant-words g l = (l.fn.from ≤ l.from) × NoneIsFree l.self-inside.runs.items l.fn.from l.from

abbrev pub decreases-words : goal.decreases-words
decreases-words g l = l.fn.below - l.from
