use Rattle.fq_laws.proofs.History.Requests.{withdrawn_untaken}
use Rattle.law_book.proofs.histories.withdrawn_is_not_taken.Goals as goal

pub returns : goal.returns
returns c = withdrawn_untaken
