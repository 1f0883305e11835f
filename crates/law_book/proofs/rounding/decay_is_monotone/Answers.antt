use Rattle.vt_fixed.proofs.Bounds.{decay_mono}
use Rattle.law_book.proofs.rounding.decay_is_monotone.Goals as goal

pub returns : goal.returns
returns c = decay_mono
