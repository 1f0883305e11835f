use Rattle.fq_laws.proofs.Charge.Requests.{charge_next}
use Rattle.law_book.proofs.accounts.charge_steps.Goals as goal

pub returns : goal.returns
returns c = charge_next
