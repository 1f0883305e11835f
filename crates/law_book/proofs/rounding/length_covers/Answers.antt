use Rattle.vt_fixed.proofs.Bounds.{length_is_least}
use Rattle.law_book.proofs.rounding.length_covers.Goals as goal

pub returns : goal.returns
returns c = length_is_least
