use Rattle.gap_laws.proofs.Bounds.{largest_bounded}
use Rattle.gap_laws.proofs.laws.largest_is_bounded.Goals as goal

pub returns : goal.returns
returns c = largest_bounded
