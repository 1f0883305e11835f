use Rattle.fq_laws.proofs.Keys.Choices.{chosen_one, chosen_keys}
use Rattle.law_book.proofs.histories.one_choice.Goals as goal

pub returns : goal.returns
returns c = λ C P m i t u k l a b. (chosen_one C P m i t u k l a b, chosen_keys C P m i t u k l a b)
