use Rattle.vt_fixed.proofs.Bounds.{cost_back}
use Rattle.law_book.proofs.rounding.cost_is_read_back.Goals as goal

pub returns : goal.returns
returns c = cost_back
