use Rattle.law_book.proofs.JudgedLegal.{streamed_legal}
use Rattle.law_book.proofs.journals.streamed_is_judged_legal.Goals as goal

pub returns : goal.returns
returns c = streamed_legal
