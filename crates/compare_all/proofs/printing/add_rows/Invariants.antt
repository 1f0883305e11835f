use Rattle.std.proofs.Common.{◌≡◌, ◌++◌, drop}
use Rattle.program_model.specs.ReportText.{compare_lines}
use Rattle.compare_all.proofs.printing.add_rows.Given as goal

abbrev pub invariant-loop-row : goal.invariant-loop-row
invariant-loop-row l = l.text.items ++ compare_lines (drop l.row-index l.rows) ≡ l.fn.text.items ++ compare_lines l.rows
