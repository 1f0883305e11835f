use Rattle.law_book.proofs.Apart.{told_histories}
use Rattle.law_book.proofs.journals.journals_tell_histories.Goals as goal

pub returns : goal.returns
returns c = told_histories
