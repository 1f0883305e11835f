use Rattle.std.proofs.Common.{◌≡◌}
use Rattle.tenant_table.specs.Names.{names_of, weights_of}
use Rattle.trace_reader.proofs.GeneratedTenants.{first_names, first_weights}
use Rattle.trace_reader.proofs.generating.generated_tenants.Given as goal

abbrev pub invariant-loop-t : goal.invariant-loop-t
invariant-loop-t l = record {
  names : names_of l.tenants ≡ first_names l.t-counter;
  weights : weights_of l.tenants ≡ first_weights l.t-counter;
}
