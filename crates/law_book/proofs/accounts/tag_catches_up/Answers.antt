use Rattle.fq_laws.proofs.Keys.Tags.{tag_after}
use Rattle.law_book.proofs.accounts.tag_catches_up.Goals as goal

pub returns : goal.returns
returns c = tag_after
