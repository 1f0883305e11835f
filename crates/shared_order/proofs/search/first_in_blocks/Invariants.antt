use Rattle.std.proofs.Common.{take}
use Rattle.std.specs.List.{All}
use Rattle.shared_order.specs.Blocks.{all_heads}
use Rattle.shared_order.specs.Search.{IsReached}
use Rattle.shared_order.proofs.search.first_in_blocks.Given as goal

abbrev pub invariant-loop-block : goal.invariant-loop-block
invariant-loop-block l = All (λ h. ¬ IsReached l.turn h) (all_heads (take l.block-index l.blocks))
