use Rattle.fq_laws.proofs.Charge.Changes.{changes}
use Rattle.law_book.proofs.accounts.tenant_steps.Goals as goal

pub returns : goal.returns
returns c = changes
