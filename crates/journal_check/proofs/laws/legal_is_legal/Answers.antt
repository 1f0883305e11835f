use Rattle.journal_check.proofs.OneVerdict.{legal_is_legal}
use Rattle.journal_check.proofs.laws.legal_is_legal.Goals as goal

pub returns : goal.returns
returns c = legal_is_legal
