use Rattle.gap_laws.proofs.Measured.{lead_bound_greatest}
use Rattle.gap_laws.proofs.laws.lead_bound_is_greatest.Goals as goal

pub returns : goal.returns
returns c = lead_bound_greatest
