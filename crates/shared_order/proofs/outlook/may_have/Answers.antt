use Rattle.std.proofs.Common.{rules, ◌≡◌, ◌∙◌, ap, sym, subst, arith, to_z, of_z, FitsSigned}
use mir.Syntax.{w128}
use Rattle.std.specs.Int.{int_min}
use Rattle.std.proofs.lemmas.Int.{to_z-of_z}
use Rattle.shared_order.specs.Heads.{HeadView}
use Rattle.shared_order.specs.Search.{AreInLimits}
use Rattle.shared_order.proofs.Searching.{reads_finish, reads_length, bound_limits}
use Rattle.shared_order.proofs.Smaller.{none_so_long, all_longer, least_is, min_low, min_high}
use Rattle.shared_order.proofs.outlook.may_have.Goals as goal
use Rattle.shared_order.proofs.outlook.may_have.Goals.{After-min}

-- the lesser length, as it is handed on
lesser : (c : After-min) → to_z w128 (of_z w128 c.min.result) ≡ int_min c.args.longest c.args.heads.now.longest
lesser c = least_is c.args.longest c.args.heads.now.longest c.min.result c.requires.low c.requires.high c.requires.short.low c.requires.short.high c.min.ensures.value

pub is_in_reach-requires-clause-in_limits : goal.is_in_reach-requires-clause-in_limits
is_in_reach-requires-clause-in_limits c =
    let i = c.first.inside in
    let x = c.args.heads.now in
    subst (AreInLimits (to_z w128 (of_z w128 i.finish))) (sym (lesser (goal.at.is_in_reach-requires-clause-in_limits c).After-min)) (bound_limits i.finish i.len (int_min c.args.longest x.longest) c.first.invariant (min_low c.args.longest x.longest c.requires.low c.requires.short.low) (min_high c.args.longest x.longest c.requires.high))

pub returns-then-heads-longest : goal.returns-then-heads-longest
returns-then-heads-longest c =
    let i = c.first.inside in
    none_so_long c.args.turn c.args.heads.now c.in-Some.first c.args.longest _ _ c.is_in_reach.result (omega arith) c.in-Some.is (reads_finish i.finish i.len c.first.invariant ∙ ap (λ (h : HeadView). h.finish) c.first.view_is) (lesser (goal.at.returns-then-heads-longest c).After-min) c.is_in_reach.ensures

pub returns-else-heads-longest : goal.returns-else-heads-longest
returns-else-heads-longest c =
    let x = c.args.heads.now in
    let fits : FitsSigned w128 x.shortest = search rules in
    λ _. all_longer c.args.turn x c.args.longest (to_z-of_z w128 x.shortest fits) (reads_length c.args.longest c.requires.low c.requires.high) c.if-heads-longest.false
