use Rattle.vt_fixed.proofs.Bounds.{part_le}
use Rattle.law_book.proofs.rounding.part_is_at_most_length.Goals as goal

pub returns : goal.returns
returns c = part_le
