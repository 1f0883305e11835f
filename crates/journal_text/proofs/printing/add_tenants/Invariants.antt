use Rattle.std.proofs.Common.{◌≡◌, ◌≤◌, ◌++◌, length, drop}
use Rattle.program_model.specs.JournalText.{tenants_text}
use Rattle.tenant_table.specs.Names.{names_of}
use Rattle.journal_text.specs.Printing.{IsKept}
use Rattle.journal_text.proofs.printing.add_tenants.Given as goal

abbrev pub invariant-loop-t : goal.invariant-loop-t
invariant-loop-t l = record {
  so_far : l.text.items ++ tenants_text (drop l.t (names_of l.tenants)) (drop l.t l.config.weights)
      ≡ l.fn.text.items ++ tenants_text (names_of l.tenants) l.config.weights;
  named : l.t ≤ length l.tenants;
  weighed : l.t ≤ length l.config.weights;
  kept : IsKept l.fn.text.items l.text.items;
}
