use Rattle.journal_text.proofs.FirstLine.{found_at}
use Rattle.journal_text.proofs.lines.find.Goals as goal

pub returns : goal.returns
returns c = found_at c.args.byte c.args.text.now c.memchr.result c.memchr.ensures
