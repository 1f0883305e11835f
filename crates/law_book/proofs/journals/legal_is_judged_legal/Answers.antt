use Rattle.law_book.proofs.JudgedLegal.{judged_legal}
use Rattle.law_book.proofs.journals.legal_is_judged_legal.Goals as goal

pub returns : goal.returns
returns c = judged_legal
