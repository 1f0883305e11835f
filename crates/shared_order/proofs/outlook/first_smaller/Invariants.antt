use Rattle.std.proofs.Common.{◌*◌, take}
use Rattle.std.specs.List.{All}
use Rattle.shared_order.specs.Blocks.{all_heads}
use Rattle.shared_order.specs.Outlook.{IsSought}
use Rattle.shared_order.proofs.outlook.first_smaller.Given as goal

abbrev pub invariant-loop-at : goal.invariant-loop-at
invariant-loop-at l = All (λ h. ¬ IsSought l.turn l.weights l.below h) (all_heads (take (l.at * 32) l.groups.used))
