use Rattle.law_book.proofs.Checked.{check_tells_legal}
use Rattle.law_book.proofs.programs.check_tells_legal.Goals as goal

pub returns : goal.returns
returns c = check_tells_legal
