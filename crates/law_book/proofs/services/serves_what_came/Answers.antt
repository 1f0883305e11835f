use Rattle.fluid_reference.proofs.Within.{within}
use Rattle.law_book.proofs.services.serves_what_came.Goals as goal

pub returns : goal.returns
returns c = within
