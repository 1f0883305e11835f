use Rattle.std.proofs.Common.{sym, ◌∙◌, ◌≡◌, ◌+◌, ap, subst, [], ◌∷◌, ◌++◌, take}
use Rattle.std.proofs.lemmas.List.{take_all, take_more}
use Rattle.shared_order.specs.Heads.{HeadView}
use Rattle.shared_order.specs.Search.{TakesSoonest}
use Rattle.shared_order.proofs.Searching.{takes_none, takes_both}
use Rattle.shared_order.proofs.search.with_heads.Goals as goal

pub loop-head-init : goal.loop-head-init
loop-head-init c = takes_none c.args.turn c.args.best

pub loop-head-preserved : goal.loop-head-preserved
loop-head-preserved c =
    let heads = c.args.heads.now in
    let i = c.loop-head.head-index in
    let h = c.head-item.result in
    let more : take (i + 1) heads ≡ take i heads ++ h ∷ [] = take_more heads i h c.loop-head-test.true ∙ ap (λ (x : HeadView). take i heads ++ x ∷ []) (sym c.head-item.is) in
    subst (λ t. TakesSoonest c.args.turn c.args.best t c.with_head-best.result) (sym more) (takes_both c.args.turn c.args.best c.loop-head.best c.with_head-best.result (take i heads) (h ∷ []) c.loop-head.invariant c.with_head-best.ensures)

pub returns : goal.returns
returns c = subst (λ t. TakesSoonest c.args.turn c.args.best t c.loop-head.best) (take_all c.loop-head.head-index c.args.heads.now c.loop-head-test.false) c.loop-head.invariant
