use Rattle.limit_laws.proofs.Legal.{fits_under}
use Rattle.limit_laws.proofs.laws.fits_under_limits.Goals as goal

pub returns : goal.returns
returns c = fits_under
