use Rattle.vt_fixed.proofs.Bounds.{length_mono}
use Rattle.law_book.proofs.rounding.length_is_monotone.Goals as goal

pub returns : goal.returns
returns c = length_mono
