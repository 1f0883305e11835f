use Rattle.std.proofs.Common.{◌∙◌, take, ap, sym}
use Rattle.shared_order.specs.Heads.{lengths_of, joined_lengths}
use Rattle.shared_order.specs.Blocks.{all_heads}
use Rattle.shared_order.proofs.Ends.{lengths-append}
use Rattle.shared_order.proofs.Pieces.{blocks_more}
use Rattle.shared_order.proofs.groups.lengths_in.Goals as goal

pub loop-block-preserved : goal.loop-block-preserved
loop-block-preserved c =
    let front = all_heads (take c.loop-block.block-index c.args.blocks.now) in
    let block = c.block-item.result in
    let more = ap lengths_of (blocks_more c.args.blocks.now c.loop-block.block-index block c.loop-block-test.true c.block-item.is) in
    c.join-lengths.ensures ∙ (ap (λ x. joined_lengths x c.lengths.result) c.loop-block.invariant ∙ (ap (λ x. joined_lengths (lengths_of front) x) c.lengths.ensures ∙ (sym (lengths-append front block) ∙ sym more)))
