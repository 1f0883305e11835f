use Rattle.std.proofs.Common.{◌*◌, take}
use Rattle.shared_order.specs.Blocks.{all_heads}
use Rattle.shared_order.specs.Search.{IsSoonest}
use Rattle.shared_order.proofs.search.soonest.Given as goal

abbrev pub invariant-loop-at : goal.invariant-loop-at
invariant-loop-at l = IsSoonest l.turn (all_heads (take (l.at * 32) l.groups.used)) l.best
