use Rattle.std.proofs.Common.{arith, rules}
use Rattle.worker_table.proofs.Changes.{opens}
use Rattle.worker_table.proofs.table.WorkerTable.open.Goals as goal

-- src/table.rt:38:9
pub invariant_of-result : goal.invariant_of-result
invariant_of-result g c =
    opens
    c.args.workers
    c.div_ceil.result
    (omega (arith, c.div_ceil.ensures))
    c.requires
    c.in_ok-runs.runs.items
    c.in_ok-free.free.items
    (search rules)
    (search rules)
