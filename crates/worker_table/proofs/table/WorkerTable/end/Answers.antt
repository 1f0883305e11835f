use Rattle.std.proofs.Common.{rules}
use Rattle.worker_table.proofs.Changes.{ends}
use Rattle.worker_table.proofs.table.WorkerTable.end.Goals as goal

-- src/table.rt:72:5
pub invariant_of-self : goal.invariant_of-self
invariant_of-self g c =
    ends
    c.self.inside.runs.items
    c.self.inside.free.items
    c.self.inside.running
    c.self.invariant
    c.args.worker
    (search rules)
    c.index.result.now
    c.with_bit.result
    c.index.ensures
    c.with_bit.ensures
