use Rattle.std.proofs.Common.{refl, rules, pos, false, get_or}
use Rattle.tenant_table.specs.Names.{names_of}
use Rattle.journal_text.proofs.Kept.{one_more, all_told}
use Rattle.program_model.specs.declared.explained.ExplainRow.{ExplainRow}
use Rattle.program_model.specs.VerdictTexts.{row_line, rows_text}
use Rattle.journal_check.proofs.printing.add_rows.Goals as goal

abbrev none : ExplainRow
none = record { tenant = 0; head = 0; start = pos 0; finish = pos 0; key = pos 0; eligible = false }

pub loop-row-preserved : goal.loop-row-preserved
loop-row-preserved c =
    one_more (rows_text (names_of c.args.tenants.now)) c.args.rows.now c.loop-row.row-index none (row_line (names_of c.args.tenants.now) (get_or c.args.rows.now c.loop-row.row-index none)) c.loop-row.text.items c.add_row.new.text.items _ c.loop-row-test.true refl (search rules) c.loop-row.invariant

pub returns : goal.returns
returns c = all_told (rows_text (names_of c.args.tenants.now)) c.args.rows.now c.loop-row.row-index c.loop-row.text.items _ c.loop-row-test.false refl c.loop-row.invariant
