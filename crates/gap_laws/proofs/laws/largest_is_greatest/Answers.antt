use Rattle.gap_laws.proofs.Told.{largest_greatest}
use Rattle.gap_laws.proofs.laws.largest_is_greatest.Goals as goal

pub returns : goal.returns
returns c = largest_greatest
