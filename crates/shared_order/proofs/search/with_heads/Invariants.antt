use Rattle.std.proofs.Common.{take}
use Rattle.shared_order.specs.Search.{TakesSoonest}
use Rattle.shared_order.proofs.search.with_heads.Given as goal

abbrev pub invariant-loop-head : goal.invariant-loop-head
invariant-loop-head l = TakesSoonest l.turn l.fn.best (take l.head-index l.heads) l.best
