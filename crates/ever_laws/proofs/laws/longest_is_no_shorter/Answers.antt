use Rattle.ever_laws.proofs.Measured.{longest_covers}
use Rattle.ever_laws.proofs.laws.longest_is_no_shorter.Goals as goal

pub returns : goal.returns
returns c = longest_covers
