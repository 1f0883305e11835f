use Rattle.ever_laws.proofs.Measured.{longest_low}
use Rattle.ever_laws.proofs.laws.longest_is_least.Goals as goal

pub returns : goal.returns
returns c = longest_low
