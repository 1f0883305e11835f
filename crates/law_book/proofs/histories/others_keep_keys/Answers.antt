use Rattle.fq_laws.proofs.Keys.Others.{keys_unconcerned}
use Rattle.law_book.proofs.histories.others_keep_keys.Goals as goal

pub returns : goal.returns
returns c = keys_unconcerned
