use Rattle.std.proofs.Common.{sym, subst, ap, arith, length, ◌≤◌}
use Rattle.std.specs.List.{All}
use Rattle.std.proofs.lemmas.Option.{IfSome_then}
use Rattle.shared_order.specs.Heads.{HeadView}
use Rattle.shared_order.specs.Blocks.{all_heads}
use Rattle.shared_order.specs.Groups.{group_count, group_heads}
use Rattle.shared_order.specs.Search.{AreInOrder, IsFirstThat}
use Rattle.shared_order.specs.Outlook.{IsWeighed, IsSought}
use Rattle.shared_order.proofs.Searching.{none_found}
use Rattle.shared_order.proofs.Extents.{short_enough}
use Rattle.shared_order.proofs.Grouping.{all_groups, group_cut}
use Rattle.shared_order.proofs.Looking.{group_all, group_range, group_order, first_in_group, none_in_group}
use Rattle.shared_order.proofs.Smaller.{handed_on, none_later, none_in_part}
use Rattle.shared_order.proofs.outlook.first_smaller.Goals as goal
use Rattle.shared_order.proofs.outlook.first_smaller.Goals.{then-may_have+else-is_some, else-may_have}

pub may_have-requires-clause-short : goal.may_have-requires-clause-short
may_have-requires-clause-short c = short_enough c.extent-group.result (group_heads c.args.groups.now.used c.loop-at.at) c.extent-group.ensures (group_range c.args.groups.now.used c.loop-at.at c.requires.in_range)

pub smaller_in_blocks-found-requires-clause-in_order : goal.smaller_in_blocks-found-requires-clause-in_order
smaller_in_blocks-found-requires-clause-in_order c =
    subst AreInOrder (ap all_heads (sym c.group.ensures)) (group_order c.args.groups.now.used c.loop-at.at c.requires.kept.sorted c.requires.in_range)

pub smaller_in_blocks-found-requires-clause-weighed : goal.smaller_in_blocks-found-requires-clause-weighed
smaller_in_blocks-found-requires-clause-weighed c =
    subst (All (IsWeighed c.args.weights.now)) (ap all_heads (sym c.group.ensures)) (group_all c.args.groups.now.used c.loop-at.at (IsWeighed c.args.weights.now) c.requires.weighed)

pub returns-then-ends_before-clause-none : goal.returns-then-ends_before-clause-none
returns-then-ends_before-clause-none c =
    let bs = c.args.groups.now.used in
    let g = c.loop-at.at in
    none_later c.args.turn c.args.weights.now c.args.below _ (omega arith) (handed_on c.args.below c.longest_below-longest.result c.longest_below-longest.ensures) c.requires.weights _ _ (group_heads bs g) _ c.extent-group.result (group_cut bs g) c.extent-group.ensures c.requires.kept.sorted c.requires.in_range c.requires.weighed (c.ends_before.ensures c.if-ends_before.true) c.loop-at.invariant

pub returns-then-is_some-clause-first : goal.returns-then-is_some-clause-first
returns-then-is_some-clause-first c = IfSome_then c.smaller_in_blocks-found.result c.smaller_in_blocks-found.ensures.first (λ h f. first_in_group c.args.groups.now.used c.loop-at.at (IsSought c.args.turn c.args.weights.now c.args.below) h c.loop-at.invariant (subst (λ heads. IsFirstThat (IsSought c.args.turn c.args.weights.now c.args.below) heads h) (ap all_heads c.group.ensures) f))

pub loop-at-preserved : goal.loop-at-preserved
loop-at-preserved c =
    let none = λ (h : HeadView). ¬ IsSought c.args.turn c.args.weights.now c.args.below h in
    let bs = c.args.groups.now.used in
    let g = c.loop-at.at in
    let order = group_order bs g c.requires.kept.sorted c.requires.in_range in
    let weighed = group_all bs g (IsWeighed c.args.weights.now) c.requires.weighed in
    let more = none_in_group bs g none c.loop-at.invariant in
    elim c.if-may_have.branch [
      | then-may_have+else-is_some w ↦ more (subst (All none) (ap all_heads w.group.ensures) (none_found w.smaller_in_blocks-found.result _ w.is_some.result w.is_some.ensures w.if-is_some.false w.smaller_in_blocks-found.ensures.none))
      | else-may_have w ↦ more (none_in_part c.args.turn c.args.weights.now c.args.below _ (omega arith) (handed_on c.args.below c.longest_below-longest.result c.longest_below-longest.ensures) c.requires.weights (group_heads bs g) order.in_range weighed (c.may_have.ensures w.if-may_have.false (group_heads bs g) order c.extent-group.ensures))
    ]

pub returns-clause-none : goal.returns-clause-none
returns-clause-none c =
    let bs = c.args.groups.now.used in
    let all : group_count (length bs) ≤ c.loop-at.at = omega (arith, c.loop-at-test.false, c.count-at-end.ensures) in
    subst (λ blocks. All (λ h. ¬ IsSought c.args.turn c.args.weights.now c.args.below h) (all_heads blocks)) (all_groups bs c.loop-at.at all) c.loop-at.invariant
