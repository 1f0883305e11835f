use Rattle.std.proofs.Common.{◌*◌, take}
use Rattle.std.specs.List.{All}
use Rattle.shared_order.specs.Blocks.{all_heads}
use Rattle.shared_order.specs.Search.{IsReached}
use Rattle.shared_order.proofs.search.first_eligible.Given as goal

abbrev pub invariant-loop-at : goal.invariant-loop-at
invariant-loop-at l = All (λ h. ¬ IsReached l.turn h) (all_heads (take (l.at * 32) l.groups.used))
