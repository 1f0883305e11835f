use Rattle.fluid_reference.proofs.Changes.{changes_say_all}
use Rattle.law_book.proofs.services.changes_say_all.Goals as goal

pub returns : goal.returns
returns c = changes_say_all
