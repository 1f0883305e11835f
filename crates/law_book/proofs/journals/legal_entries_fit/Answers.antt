use Rattle.law_book.proofs.JudgedLegal.{entries_fit}
use Rattle.law_book.proofs.journals.legal_entries_fit.Goals as goal

pub returns : goal.returns
returns c = entries_fit
