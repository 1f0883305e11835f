use Rattle.std.proofs.Common.{sym, ◌∙◌}
use Rattle.journal_text.proofs.FirstLine.{first_line_at, first_line_open}
use Rattle.journal_text.proofs.lines.next_line.Goals as goal

pub returns-in-Some : goal.returns-in-Some
returns-in-Some c = first_line_at c.args.text.now c.in-Some.end (sym c.in-Some.is ∙ c.find.ensures)

pub returns-in-None : goal.returns-in-None
returns-in-None c = first_line_open c.args.text.now (sym c.is_empty.ensures ∙ c.if-is_empty.false) (sym c.in-None.is ∙ c.find.ensures)
