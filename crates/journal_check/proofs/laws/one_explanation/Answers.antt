use Rattle.journal_check.proofs.OneExplanation.{one_explanation}
use Rattle.journal_check.proofs.laws.one_explanation.Goals as goal

pub returns : goal.returns
returns c = one_explanation
