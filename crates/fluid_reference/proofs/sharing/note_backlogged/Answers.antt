use Rattle.std.proofs.Common.{◌∙◌, sym, ap, ◌++◌, ◌∷◌, [], get_or, take, cond, filter}
use Rattle.std.proofs.lemmas.Bool.{lt-ltb, le-ltb}
use Rattle.std.proofs.lemmas.List.{take_all, append-nil}
use Rattle.std.proofs.lemmas.List.Elements.{filter_more}
use Rattle.fluid_reference.specs.Slots.{has_backlog}
use Rattle.fluid_reference.proofs.sharing.note_backlogged.Goals as goal
use Rattle.fluid_reference.proofs.sharing.note_backlogged.Goals.{then-served-t+in_ok-push, else-served-t}

pub loop-t-preserved : goal.loop-t-preserved
loop-t-preserved c =
    let more = filter_more (has_backlog c.args.costs.now c.args.served.now) c.args.tenants.now c.loop-t.t-index 0 c.loop-t-test.true in
    elim c.if-served-t.branch [
      | then-served-t+in_ok-push w ↦
          ap (λ v. v.items) w.left-is
          ∙ (w.in_ok-push.ensures.items
          ∙ (ap (λ l. l ++ get_or c.args.tenants.now c.loop-t.t-index 0 ∷ []) c.loop-t.invariant
          ∙ sym (more ∙ ap (λ b. filter (has_backlog c.args.costs.now c.args.served.now) (take c.loop-t.t-index c.args.tenants.now) ++ cond b (get_or c.args.tenants.now c.loop-t.t-index 0 ∷ []) []) (lt-ltb _ _ w.if-served-t.true))))
      | else-served-t w ↦
          ap (λ v. v.items) w.left-is
          ∙ (c.loop-t.invariant
          ∙ (sym (append-nil _)
          ∙ sym (more ∙ ap (λ b. filter (has_backlog c.args.costs.now c.args.served.now) (take c.loop-t.t-index c.args.tenants.now) ++ cond b (get_or c.args.tenants.now c.loop-t.t-index 0 ∷ []) []) (le-ltb _ _ w.if-served-t.false))))
    ]

pub returns : goal.returns
returns c = c.loop-t.invariant ∙ ap (filter (has_backlog c.args.costs.now c.args.served.now)) (take_all c.loop-t.t-index c.args.tenants.now c.loop-t-test.false)
