use Rattle.tenant_table.proofs.Tables.{finds}
use Rattle.law_book.proofs.names.finds_each_name.Goals as goal

pub returns : goal.returns
returns c = finds
