use Rattle.std.proofs.Common.{sym, subst, arith, pos, ◌≤ℤ◌}
use Rattle.std.specs.List.{All}
use Rattle.std.proofs.lemmas.List.{take_all}
use Rattle.std.proofs.lemmas.Option.{IfSome_then}
use Rattle.vt_fixed.specs.declared.limits.TheConstants.{GREATEST_LENGTH}
use Rattle.shared_order.specs.Heads.{HeadView}
use Rattle.shared_order.specs.Blocks.{all_heads}
use Rattle.shared_order.specs.Search.{IsFirstThat}
use Rattle.shared_order.specs.Outlook.{IsWeighed, IsSought}
use Rattle.shared_order.proofs.Pieces.{block_all, block_order, blocks_cut}
use Rattle.shared_order.proofs.Searching.{first_in_block, none_in_more, none_found}
use Rattle.shared_order.proofs.Extents.{short_enough}
use Rattle.shared_order.proofs.Smaller.{handed_on, none_later, none_in_part}
use Rattle.shared_order.proofs.outlook.smaller_in_blocks.Goals as goal
use Rattle.shared_order.proofs.outlook.smaller_in_blocks.Goals.{then-may_have+else-is_some, else-may_have}

pub may_have-requires-clause-short : goal.may_have-requires-clause-short
may_have-requires-clause-short c = short_enough c.extent-heads.result c.block-item.result c.extent-heads.ensures (block_all (λ (h : HeadView). (pos 0 ≤ℤ h.len) × (h.len ≤ℤ GREATEST_LENGTH)) c.args.blocks.now c.loop-block.block-index c.block-item.result c.loop-block-test.true c.block-item.is c.requires.in_order.in_range)

pub smaller_in-found-requires-clause-weighed : goal.smaller_in-found-requires-clause-weighed
smaller_in-found-requires-clause-weighed c =
    subst (All (IsWeighed c.args.weights.now)) (sym c.heads.ensures.heads) (block_all (IsWeighed c.args.weights.now) c.args.blocks.now c.loop-block.block-index c.block-item.result c.loop-block-test.true c.block-item.is c.requires.weighed)

pub returns-then-ends_before-clause-none : goal.returns-then-ends_before-clause-none
returns-then-ends_before-clause-none c =
    none_later c.args.turn c.args.weights.now c.args.below _ (omega arith) (handed_on c.args.below c.longest_below-longest.result c.longest_below-longest.ensures) c.requires.weights _ _ c.block-item.result _ c.extent-heads.result (blocks_cut c.args.blocks.now c.loop-block.block-index c.block-item.result c.loop-block-test.true c.block-item.is) c.extent-heads.ensures c.requires.in_order.sorted c.requires.in_order.in_range c.requires.weighed (c.ends_before.ensures c.if-ends_before.true) c.loop-block.invariant

pub returns-then-is_some-clause-first : goal.returns-then-is_some-clause-first
returns-then-is_some-clause-first c = IfSome_then c.smaller_in-found.result c.smaller_in-found.ensures.first (λ h f. first_in_block (IsSought c.args.turn c.args.weights.now c.args.below) c.args.blocks.now c.loop-block.block-index c.block-item.result h c.loop-block-test.true c.block-item.is c.loop-block.invariant (subst (λ heads. IsFirstThat (IsSought c.args.turn c.args.weights.now c.args.below) heads h) c.heads.ensures.heads f))

pub loop-block-preserved : goal.loop-block-preserved
loop-block-preserved c =
    let none = λ (h : HeadView). ¬ IsSought c.args.turn c.args.weights.now c.args.below h in
    let blocks = c.args.blocks.now in
    let i = c.loop-block.block-index in
    let block = c.block-item.result in
    let order = block_order blocks i block c.loop-block-test.true c.block-item.is c.requires.in_order in
    let weighed = block_all (IsWeighed c.args.weights.now) blocks i block c.loop-block-test.true c.block-item.is c.requires.weighed in
    let more = none_in_more none blocks i block c.loop-block-test.true c.block-item.is c.loop-block.invariant in
    elim c.if-may_have.branch [
      | then-may_have+else-is_some w ↦ more (subst (All none) w.heads.ensures.heads (none_found w.smaller_in-found.result _ w.is_some.result w.is_some.ensures w.if-is_some.false w.smaller_in-found.ensures.none))
      | else-may_have w ↦ more (none_in_part c.args.turn c.args.weights.now c.args.below _ (omega arith) (handed_on c.args.below c.longest_below-longest.result c.longest_below-longest.ensures) c.requires.weights block order.in_range weighed (c.may_have.ensures w.if-may_have.false block order c.extent-heads.ensures))
    ]

pub returns-clause-none : goal.returns-clause-none
returns-clause-none c = subst (λ blocks. All (λ h. ¬ IsSought c.args.turn c.args.weights.now c.args.below h) (all_heads blocks)) (take_all c.loop-block.block-index c.args.blocks.now c.loop-block-test.false) c.loop-block.invariant
