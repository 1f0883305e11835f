use Rattle.std.proofs.Common.{◌∷◌}
use Rattle.gap_laws.proofs.Declared.{all_are_declared}
use Rattle.gap_laws.proofs.Starts.{start_taken}
use Rattle.gap_laws.proofs.laws.start_rises_at_takes.Goals as goal

pub returns : goal.returns
returns c = λ C P e t r h is. start_taken C P e t r h.limits h.legal (all_are_declared C (e ∷ P) h) is
