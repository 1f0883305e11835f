use Rattle.std.proofs.Common.{take}
use Rattle.std.specs.List.{All}
use Rattle.shared_order.specs.Outlook.{IsSought}
use Rattle.shared_order.proofs.outlook.smaller_in.Given as goal

abbrev pub invariant-loop-head : goal.invariant-loop-head
invariant-loop-head l = All (λ h. ¬ IsSought l.turn l.weights l.below h) (take l.head-index l.heads)
