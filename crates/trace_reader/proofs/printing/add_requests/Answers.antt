use Rattle.std.proofs.Common.{◌≡◌, ◌++◌, ◌+◌, drop, get_or, rules}
use Rattle.std.proofs.lemmas.List.{at_drop_more}
use Rattle.program_model.specs.declared.trace.TraceRow.{TraceRow}
use Rattle.program_model.specs.TraceText.{request_record, request_records}
use Rattle.trace_reader.proofs.Printed.{longer}
use Rattle.trace_reader.proofs.printing.add_requests.Goals as goal

-- the row past the end of the list
abbrev none : TraceRow
none = record { moment = 0; submitter = 0; tenant = 0; kind = 0; declared = 0; cost = 0 }

pub loop-row-preserved : goal.loop-row-preserved
loop-row-preserved c =
    let trace = c.args.trace.now in
    let line = request_record trace.tenants trace.kinds (get_or trace.rows c.loop-row.row-index none) in
    let told = request_records trace.tenants trace.kinds in
    let appended : c.extend_from_slice.new.self.items ≡ c.loop-row.text.items ++ line = search rules in
    longer c.loop-row.text.items c.extend_from_slice.new.self.items line (told (drop c.loop-row.row-index trace.rows)) (told (drop (c.loop-row.row-index + 1) trace.rows)) _
    appended (at_drop_more told trace.rows c.loop-row.row-index none (search rules)) c.loop-row.invariant
