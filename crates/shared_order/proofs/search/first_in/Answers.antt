use Rattle.std.proofs.Common.{subst, IsTrue, ◌↔◌}
use Rattle.std.specs.List.{All}
use Rattle.std.proofs.lemmas.List.{take_all}
use Rattle.std.proofs.lemmas.List.Elements.{All-nil, All-more}
use Rattle.shared_order.specs.Search.{IsReached}
use Rattle.shared_order.proofs.Searching.{head_limits, first_at, reach_read, not_so}
use Rattle.shared_order.proofs.search.first_in.Goals as goal

pub loop-head-init : goal.loop-head-init
loop-head-init c = All-nil (λ h. ¬ IsReached c.args.turn h)

pub is_in_reach-requires-clause-in_limits : goal.is_in_reach-requires-clause-in_limits
is_in_reach-requires-clause-in_limits c = head_limits c.head.inside.finish c.head.inside.len c.head.invariant

pub returns-then-is_in_reach-clause-first : goal.returns-then-is_in_reach-clause-first
returns-then-is_in_reach-clause-first c =
    let h = c.head-item.result in
    let reached : IsTrue c.is_in_reach.result ↔ IsReached c.args.turn h = subst (λ x. IsTrue c.is_in_reach.result ↔ IsReached c.args.turn x) c.head.view_is (reach_read c.args.turn c.head.inside.finish c.head.inside.len c.is_in_reach.result c.head.invariant c.is_in_reach.ensures) in
    rw c.head.view_is (first_at (IsReached c.args.turn) c.args.heads.now c.loop-head.head-index h c.loop-head-test.true c.head-item.is (reached.0 c.if-is_in_reach.true) c.loop-head.invariant)

pub loop-head-preserved : goal.loop-head-preserved
loop-head-preserved c =
    let h = c.head-item.result in
    let reached : IsTrue c.is_in_reach.result ↔ IsReached c.args.turn h = subst (λ x. IsTrue c.is_in_reach.result ↔ IsReached c.args.turn x) c.head.view_is (reach_read c.args.turn c.head.inside.finish c.head.inside.len c.is_in_reach.result c.head.invariant c.is_in_reach.ensures) in
    All-more (λ x. ¬ IsReached c.args.turn x) c.args.heads.now c.loop-head.head-index h c.loop-head-test.true c.loop-head.invariant (subst (λ x. ¬ IsReached c.args.turn x) c.head-item.is (not_so c.is_in_reach.result (IsReached c.args.turn h) reached c.if-is_in_reach.false))

pub returns-clause-none : goal.returns-clause-none
returns-clause-none c = subst (All (λ h. ¬ IsReached c.args.turn h)) (take_all c.loop-head.head-index c.args.heads.now c.loop-head-test.false) c.loop-head.invariant
