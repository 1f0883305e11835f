use Rattle.std.proofs.Common.{subst, arith, length, ap, sym, ◌≤◌}
use Rattle.std.specs.List.{All}
use Rattle.std.proofs.lemmas.Option.{IfSome_then}
use Rattle.shared_order.specs.Blocks.{all_heads}
use Rattle.shared_order.specs.Groups.{group_count, group_heads}
use Rattle.shared_order.specs.Search.{AreInOrder, IsReached, IsFirstThat}
use Rattle.shared_order.proofs.Searching.{none_found}
use Rattle.shared_order.proofs.Extents.{short_enough}
use Rattle.shared_order.proofs.Grouping.{all_groups}
use Rattle.shared_order.proofs.Looking.{group_range, group_order, first_in_group, none_in_group}
use Rattle.shared_order.proofs.search.first_eligible.Goals as goal
use Rattle.shared_order.proofs.search.first_eligible.Goals.{then-may_reach+else-is_some, else-may_reach}

pub may_reach-requires-clause-short : goal.may_reach-requires-clause-short
may_reach-requires-clause-short c = short_enough c.extent.result (group_heads c.args.groups.now.used c.loop-at.at) c.extent.ensures (group_range c.args.groups.now.used c.loop-at.at c.requires.in_range)

pub first_in_blocks-head-requires-clause-in_order : goal.first_in_blocks-head-requires-clause-in_order
first_in_blocks-head-requires-clause-in_order c =
    subst AreInOrder (ap all_heads (sym c.group.ensures)) (group_order c.args.groups.now.used c.loop-at.at c.requires.kept.sorted c.requires.in_range)

pub returns-then-is_some-clause-first : goal.returns-then-is_some-clause-first
returns-then-is_some-clause-first c = IfSome_then c.first_in_blocks-head.result c.first_in_blocks-head.ensures.first (λ h f. first_in_group c.args.groups.now.used c.loop-at.at (IsReached c.args.turn) h c.loop-at.invariant (subst (λ heads. IsFirstThat (IsReached c.args.turn) heads h) (ap all_heads c.group.ensures) f))

pub loop-at-preserved : goal.loop-at-preserved
loop-at-preserved c =
    let bs = c.args.groups.now.used in
    let g = c.loop-at.at in
    let more = none_in_group bs g (λ h. ¬ IsReached c.args.turn h) c.loop-at.invariant in
    elim c.if-may_reach.branch [
      | then-may_reach+else-is_some w ↦ more (subst (All (λ h. ¬ IsReached c.args.turn h)) (ap all_heads w.group.ensures) (none_found w.first_in_blocks-head.result _ w.is_some.result w.is_some.ensures w.if-is_some.false w.first_in_blocks-head.ensures.none))
      | else-may_reach w ↦ more (c.may_reach.ensures w.if-may_reach.false (group_heads bs g) (group_order bs g c.requires.kept.sorted c.requires.in_range) c.extent.ensures)
    ]

pub returns-clause-none : goal.returns-clause-none
returns-clause-none c =
    let bs = c.args.groups.now.used in
    let all : group_count (length bs) ≤ c.loop-at.at = omega (arith, c.loop-at-test.false, c.count-at-end.ensures) in
    subst (λ blocks. All (λ h. ¬ IsReached c.args.turn h) (all_heads blocks)) (all_groups bs c.loop-at.at all) c.loop-at.invariant
