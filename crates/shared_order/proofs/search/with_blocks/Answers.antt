use Rattle.std.proofs.Common.{sym, subst, pos, ◌≤ℤ◌, take}
use Rattle.std.proofs.lemmas.List.{take_all}
use Rattle.vt_fixed.specs.declared.limits.TheConstants.{GREATEST_LENGTH}
use Rattle.shared_order.specs.Heads.{HeadView}
use Rattle.shared_order.specs.Blocks.{all_heads}
use Rattle.shared_order.specs.Search.{TakesSoonest}
use Rattle.shared_order.proofs.Pieces.{block_all, blocks_more}
use Rattle.shared_order.proofs.Searching.{takes_none, takes_both}
use Rattle.shared_order.proofs.search.with_blocks.Goals as goal

pub loop-block-init : goal.loop-block-init
loop-block-init c = takes_none c.args.turn c.args.best

pub with_block-best-requires : goal.with_block-best-requires
with_block-best-requires c = block_all (λ (h : HeadView). (pos 0 ≤ℤ h.len) × (h.len ≤ℤ GREATEST_LENGTH)) c.args.blocks.now c.loop-block.block-index c.block-item.result c.loop-block-test.true c.block-item.is c.requires

pub loop-block-preserved : goal.loop-block-preserved
loop-block-preserved c =
    let blocks = c.args.blocks.now in
    let i = c.loop-block.block-index in
    subst (λ heads. TakesSoonest c.args.turn c.args.best heads c.with_block-best.result) (sym (blocks_more blocks i c.block-item.result c.loop-block-test.true c.block-item.is)) (takes_both c.args.turn c.args.best c.loop-block.best c.with_block-best.result (all_heads (take i blocks)) c.block-item.result c.loop-block.invariant c.with_block-best.ensures)

pub returns : goal.returns
returns c = subst (λ blocks. TakesSoonest c.args.turn c.args.best (all_heads blocks) c.loop-block.best) (take_all c.loop-block.block-index c.args.blocks.now c.loop-block-test.false) c.loop-block.invariant
