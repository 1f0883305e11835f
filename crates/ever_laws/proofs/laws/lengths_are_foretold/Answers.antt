use Rattle.ever_laws.proofs.Foretold.{lengths_foretold}
use Rattle.ever_laws.proofs.laws.lengths_are_foretold.Goals as goal

pub returns : goal.returns
returns c = lengths_foretold
