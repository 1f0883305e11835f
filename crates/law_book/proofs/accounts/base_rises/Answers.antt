use Rattle.fq_laws.proofs.Keys.Tags.{base_rises}
use Rattle.law_book.proofs.accounts.base_rises.Goals as goal

pub returns : goal.returns
returns c = base_rises
