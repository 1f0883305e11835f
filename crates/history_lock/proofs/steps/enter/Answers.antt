use Rattle.std.proofs.Common.{rules, sym, ap, ◌∙◌, ◌∷◌, Some}
use Rattle.atomic_table.specs.Table.{rest}
use Rattle.history_lock.proofs.Looking.{looks}
use Rattle.history_lock.proofs.steps.enter.Goals as goal

pub load-served-requires : goal.load-served-requires
load-served-requires g c = let turn = c.loop.invariant.4 in
    (search rules, search rules, looks g.M.Machine.past g.M.Machine.frame _ _ _ _ turn.0 (ap (λ m. m.0.stage) turn.2))

pub exchange-requires : goal.exchange-requires
exchange-requires g c = let turn = c.loop.invariant.4 in let took = (c.load-served.ensures.2 turn.0 (ap (λ m. m.0.stage) turn.2)).0 (c.if-served-turn.true ∙ turn.1) in
    let now = ap (λ m. m.1) took.1.0 in
    (search rules, (Some took.0, now ∙ ap (λ cs. (0, Some took.0) ∷ rest cs) (sym now)))
