use Rattle.std.proofs.Common.{◌≡◌, ◌≤◌, length, take}
use Rattle.tenant_table.specs.Names.{weights_of}
use Rattle.tenant_table.proofs.tenants.Tenants.weights.Given as goal

abbrev pub invariant-loop-t : goal.invariant-loop-t
invariant-loop-t l = record {
  so_far : l.weights.items ≡ take l.t (weights_of l.self);
  below : l.t ≤ length l.self;
}
