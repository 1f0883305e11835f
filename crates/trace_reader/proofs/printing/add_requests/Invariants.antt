use Rattle.std.proofs.Common.{◌≡◌, ◌++◌, drop}
use Rattle.program_model.specs.TraceText.{request_records}
use Rattle.trace_reader.proofs.printing.add_requests.Given as goal

abbrev pub invariant-loop-row : goal.invariant-loop-row
invariant-loop-row l =
    l.text.items ++ request_records l.trace.tenants l.trace.kinds (drop l.row-index l.trace.rows)
    ≡ l.fn.text.items ++ request_records l.trace.tenants l.trace.kinds l.trace.rows
