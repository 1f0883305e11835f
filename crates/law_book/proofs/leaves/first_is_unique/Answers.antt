use Rattle.winner_tree.proofs.Orders as orders
use Rattle.law_book.proofs.leaves.first_is_unique.Goals as goal

pub returns : goal.returns
returns c = orders.first_is_unique
