use Rattle.std.proofs.Common.{take}
use Rattle.std.specs.List.{All}
use Rattle.shared_order.specs.Blocks.{all_heads}
use Rattle.shared_order.specs.Outlook.{IsSought}
use Rattle.shared_order.proofs.outlook.smaller_in_blocks.Given as goal

abbrev pub invariant-loop-block : goal.invariant-loop-block
invariant-loop-block l = All (λ h. ¬ IsSought l.turn l.weights l.below h) (all_heads (take l.block-index l.blocks))
