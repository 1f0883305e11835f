use Rattle.water_level.proofs.TheOne.{the_one}
use Rattle.law_book.proofs.levels.level_is_the_one.Goals as goal

pub returns : goal.returns
returns c = the_one
