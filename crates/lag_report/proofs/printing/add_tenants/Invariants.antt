use Rattle.std.proofs.Common.{◌≡◌, ◌≤◌, ◌++◌, length, drop}
use Rattle.program_model.specs.ReportText.{tenant_lag_lines}
use Rattle.tenant_table.specs.Names.{names_of}
use Rattle.lag_report.proofs.printing.add_tenants.Given as goal

abbrev pub invariant-loop-t : goal.invariant-loop-t
invariant-loop-t l = record {
  so_far : l.text.items ++ tenant_lag_lines (drop l.t (names_of l.tenants)) (drop l.t l.rows) ≡ l.fn.text.items ++ tenant_lag_lines (names_of l.tenants) l.rows;
  inside : l.t ≤ length l.rows;
}
