use Rattle.std.proofs.Common.{subst}
use Rattle.std.specs.List.{All}
use Rattle.std.proofs.lemmas.List.{take_all}
use Rattle.std.proofs.lemmas.List.Elements.{All-nil, All-more}
use Rattle.shared_order.specs.Outlook.{IsSought}
use Rattle.shared_order.proofs.Searching.{first_at, not_so}
use Rattle.shared_order.proofs.outlook.smaller_in.Goals as goal

pub loop-head-init : goal.loop-head-init
loop-head-init c = All-nil (λ h. ¬ IsSought c.args.turn c.args.weights.now c.args.below h)

pub returns-then-is_sought-clause-first : goal.returns-then-is_sought-clause-first
returns-then-is_sought-clause-first c =
    first_at (IsSought c.args.turn c.args.weights.now c.args.below) c.args.heads.now c.loop-head.head-index c.head-item.result c.loop-head-test.true c.head-item.is (c.is_sought.ensures.0 c.if-is_sought.true) c.loop-head.invariant

pub loop-head-preserved : goal.loop-head-preserved
loop-head-preserved c =
    All-more (λ h. ¬ IsSought c.args.turn c.args.weights.now c.args.below h) c.args.heads.now c.loop-head.head-index c.head-item.result c.loop-head-test.true c.loop-head.invariant (subst (λ h. ¬ IsSought c.args.turn c.args.weights.now c.args.below h) c.head-item.is (not_so c.is_sought.result _ c.is_sought.ensures c.if-is_sought.false))

pub returns-clause-none : goal.returns-clause-none
returns-clause-none c = subst (All (λ h. ¬ IsSought c.args.turn c.args.weights.now c.args.below h)) (take_all c.loop-head.head-index c.args.heads.now c.loop-head-test.false) c.loop-head.invariant
