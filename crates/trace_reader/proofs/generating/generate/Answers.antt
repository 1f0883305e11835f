use Rattle.std.proofs.Common.{arith}
use Rattle.trace_reader.proofs.Generated.{generated_lawful}
use Rattle.trace_reader.proofs.generating.generate.Goals as goal

pub returns-clause-lawful : goal.returns-clause-lawful
returns-clause-lawful c =
    rw c.in_ok-generated.ensures (generated_lawful c.args.seed c.args.tenants c.args.requests (omega arith) (omega arith) (omega arith))
