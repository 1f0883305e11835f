use Rattle.law_book.proofs.JournalsRead.{streamed_back}
use Rattle.law_book.proofs.journals.streamed_read_back.Goals as goal

pub returns : goal.returns
returns c = streamed_back
