use Rattle.law_book.proofs.Entries.{entries_are_needed}
use Rattle.law_book.proofs.simulations.entries_needed.Goals as goal

pub returns : goal.returns
returns c = entries_are_needed
