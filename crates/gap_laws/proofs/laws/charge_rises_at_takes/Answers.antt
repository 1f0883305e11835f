use Rattle.std.proofs.Common.{◌∷◌}
use Rattle.gap_laws.proofs.Declared.{all_are_declared, charge_step}
use Rattle.gap_laws.proofs.laws.charge_rises_at_takes.Goals as goal

pub returns : goal.returns
returns c = λ C P e t h. charge_step C P e t h.limits h.legal (all_are_declared C (e ∷ P) h)
