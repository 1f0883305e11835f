use Rattle.std.proofs.Common.{◌≡◌, ◌≤◌, ◌++◌, length, drop}
use Rattle.program_model.specs.TraceText.{tenant_records}
use Rattle.tenant_table.specs.Names.{names_of, weights_of}
use Rattle.trace_reader.proofs.printing.tenants_text.Given as goal

abbrev pub invariant-loop-t : goal.invariant-loop-t
invariant-loop-t l = record {
  so_far : l.text.items ++ tenant_records (names_of (drop l.t l.tenants)) (weights_of (drop l.t l.tenants)) ≡ tenant_records (names_of l.tenants) (weights_of l.tenants);
  below : l.t ≤ length l.tenants;
}
