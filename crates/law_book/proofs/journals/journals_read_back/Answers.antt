use Rattle.law_book.proofs.JournalsRead.{read_back}
use Rattle.law_book.proofs.journals.journals_read_back.Goals as goal

pub returns : goal.returns
returns c = read_back
