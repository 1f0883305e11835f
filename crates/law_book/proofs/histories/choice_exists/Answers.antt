use Rattle.fq_laws.proofs.Keys.Choices.{chosen}
use Rattle.law_book.proofs.histories.choice_exists.Goals as goal

pub returns : goal.returns
returns c = chosen
