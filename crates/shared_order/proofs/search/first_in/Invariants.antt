use Rattle.std.proofs.Common.{take}
use Rattle.std.specs.List.{All}
use Rattle.shared_order.specs.Search.{IsReached}
use Rattle.shared_order.proofs.search.first_in.Given as goal

abbrev pub invariant-loop-head : goal.invariant-loop-head
invariant-loop-head l = All (λ h. ¬ IsReached l.turn h) (take l.head-index l.heads)
