use Rattle.fq_laws.proofs.Charge.Requests.{charge_final}
use Rattle.law_book.proofs.accounts.final_charge.Goals as goal

pub returns : goal.returns
returns c = charge_final
