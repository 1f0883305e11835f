use Rattle.fq_laws.proofs.Charge.Limits.{charge_low}
use Rattle.law_book.proofs.accounts.charge_limit.Goals as goal

pub returns : goal.returns
returns c = charge_low
