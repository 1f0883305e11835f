use Rattle.gap_laws.proofs.Told.{bound_greatest}
use Rattle.gap_laws.proofs.laws.bound_is_greatest.Goals as goal

pub returns : goal.returns
returns c = bound_greatest
