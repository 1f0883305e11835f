use Rattle.std.proofs.Common.{rules}
use Rattle.worker_table.proofs.Changes.{starts}
use Rattle.worker_table.proofs.table.WorkerTable.start.Goals as goal

-- src/table.rt:53:5
pub invariant_of-self : goal.invariant_of-self
invariant_of-self g c =
    starts
    c.self.inside.runs.items
    c.self.inside.free.items
    c.self.inside.running
    c.self.invariant
    c.args.worker
    c.args.run
    (search rules)
    c.index.result.now
    c.without_bit.result
    c.index.ensures
    c.without_bit.ensures
