use Rattle.fq_laws.proofs.Keys.Others.{leaves}
use Rattle.law_book.proofs.histories.entries_leave_others.Goals as goal

pub returns : goal.returns
returns c = leaves
