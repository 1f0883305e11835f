use Rattle.fq_laws.proofs.Keys.Lifts.{takes_lift}
use Rattle.law_book.proofs.accounts.takes_lift.Goals as goal

pub returns : goal.returns
returns c = takes_lift
