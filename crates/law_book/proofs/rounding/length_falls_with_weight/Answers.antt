use Rattle.vt_fixed.proofs.Bounds.{length_falls_law}
use Rattle.law_book.proofs.rounding.length_falls_with_weight.Goals as goal

pub returns : goal.returns
returns c = length_falls_law
