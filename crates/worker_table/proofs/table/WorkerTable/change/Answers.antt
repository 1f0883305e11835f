use Rattle.std.proofs.Common.{rules}
use Rattle.worker_table.proofs.Changes.{changes}
use Rattle.worker_table.proofs.table.WorkerTable.change.Goals as goal

-- src/table.rt:64:5
pub invariant_of-self : goal.invariant_of-self
invariant_of-self g c =
    changes
    c.self.inside.runs.items
    c.self.inside.free.items
    c.self.inside.running
    c.self.invariant
    c.args.worker
    c.args.run
    (search rules)
