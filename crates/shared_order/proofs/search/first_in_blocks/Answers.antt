use Rattle.std.proofs.Common.{subst, pos, ◌≤ℤ◌}
use Rattle.std.specs.List.{All}
use Rattle.std.proofs.lemmas.List.{take_all}
use Rattle.std.proofs.lemmas.Option.{IfSome_then}
use Rattle.vt_fixed.specs.declared.limits.TheConstants.{GREATEST_LENGTH}
use Rattle.shared_order.specs.Heads.{HeadView}
use Rattle.shared_order.specs.Blocks.{all_heads}
use Rattle.shared_order.specs.Search.{IsReached, IsFirstThat}
use Rattle.shared_order.proofs.Pieces.{block_all, block_order}
use Rattle.shared_order.proofs.Searching.{first_in_block, none_in_more, none_found}
use Rattle.shared_order.proofs.Extents.{short_enough}
use Rattle.shared_order.proofs.search.first_in_blocks.Goals as goal
use Rattle.shared_order.proofs.search.first_in_blocks.Goals.{then-may_reach+else-is_some, else-may_reach}

pub may_reach-requires-clause-short : goal.may_reach-requires-clause-short
may_reach-requires-clause-short c = short_enough c.extent.result c.block-item.result c.extent.ensures (block_all (λ (h : HeadView). (pos 0 ≤ℤ h.len) × (h.len ≤ℤ GREATEST_LENGTH)) c.args.blocks.now c.loop-block.block-index c.block-item.result c.loop-block-test.true c.block-item.is c.requires.in_order.in_range)

pub returns-then-is_some-clause-first : goal.returns-then-is_some-clause-first
returns-then-is_some-clause-first c = IfSome_then c.first_in-found.result c.first_in-found.ensures.first (λ h f. first_in_block (IsReached c.args.turn) c.args.blocks.now c.loop-block.block-index c.block-item.result h c.loop-block-test.true c.block-item.is c.loop-block.invariant (subst (λ heads. IsFirstThat (IsReached c.args.turn) heads h) c.heads.ensures.heads f))

pub loop-block-preserved : goal.loop-block-preserved
loop-block-preserved c =
    let blocks = c.args.blocks.now in
    let i = c.loop-block.block-index in
    let block = c.block-item.result in
    let more = none_in_more (λ h. ¬ IsReached c.args.turn h) blocks i block c.loop-block-test.true c.block-item.is c.loop-block.invariant in
    elim c.if-may_reach.branch [
      | then-may_reach+else-is_some w ↦ more (subst (All (λ h. ¬ IsReached c.args.turn h)) w.heads.ensures.heads (none_found w.first_in-found.result _ w.is_some.result w.is_some.ensures w.if-is_some.false w.first_in-found.ensures.none))
      | else-may_reach w ↦ more (c.may_reach.ensures w.if-may_reach.false block (block_order blocks i block c.loop-block-test.true c.block-item.is c.requires.in_order) c.extent.ensures)
    ]

pub returns-clause-none : goal.returns-clause-none
returns-clause-none c = subst (λ blocks. All (λ h. ¬ IsReached c.args.turn h) (all_heads blocks)) (take_all c.loop-block.block-index c.args.blocks.now c.loop-block-test.false) c.loop-block.invariant
