use Rattle.law_book.proofs.Rows.{own_rows}
use Rattle.law_book.proofs.programs.own_rows.Goals as goal

pub returns : goal.returns
returns c = own_rows
