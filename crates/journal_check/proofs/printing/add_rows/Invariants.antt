use Rattle.std.proofs.Common.{◌≡◌, ◌++◌, drop}
use Rattle.tenant_table.specs.Names.{names_of}
use Rattle.program_model.specs.VerdictTexts.{rows_text}
use Rattle.journal_check.proofs.printing.add_rows.Given as goal

abbrev pub invariant-loop-row : goal.invariant-loop-row
invariant-loop-row l = l.text.items ++ rows_text (names_of l.tenants) (drop l.row-index l.rows) ≡ l.fn.text.items ++ rows_text (names_of l.tenants) l.rows
