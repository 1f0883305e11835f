use Rattle.std.proofs.Common.{◌≡◌, ◌++◌, ◌+◌, rules, arith}
use Rattle.program_model.specs.TraceText.{tenant_record, tenant_records}
use Rattle.tenant_table.specs.Names.{names_of, weights_of}
use Rattle.trace_reader.proofs.Printed.{lines_from, next_tenant, longer}
use Rattle.trace_reader.proofs.printing.tenants_text.Goals as goal

pub loop-t-preserved : goal.loop-t-preserved
loop-t-preserved c =
    let tenants = c.args.tenants.now in
    let line = tenant_record c.name.result.now c.weight.result in
    let appended : c.extend_from_slice.new.self.items ≡ c.loop-t.text.items ++ line = search rules in
    let first = next_tenant tenants c.loop-t.t c.name.result.now c.weight.result (omega arith) c.name.ensures.value c.weight.ensures.value in
    record {
      so_far = longer c.loop-t.text.items c.extend_from_slice.new.self.items line (lines_from tenants c.loop-t.t) (lines_from tenants (c.loop-t.t + 1)) (tenant_records (names_of tenants) (weights_of tenants)) appended first c.loop-t.invariant.so_far;
      below = omega arith;
    }
