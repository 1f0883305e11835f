use Rattle.fq_laws.proofs.Charge.Requests.{charge_covers_use}
use Rattle.law_book.proofs.accounts.charge_covers_use.Goals as goal

pub returns : goal.returns
returns c = charge_covers_use
