use Rattle.fq_laws.proofs.Keys.Others.{keys_still}
use Rattle.law_book.proofs.histories.keys_do_not_age.Goals as goal

pub returns : goal.returns
returns c = keys_still
