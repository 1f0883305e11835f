use Rattle.std.proofs.Common.{ℕ, ◌∙◌, sym, ap, ◌++◌, ◌∷◌, [], get_or, map}
use Rattle.std.proofs.lemmas.List.{take_all, map_more}
use Rattle.fq_model.specs.declared.level.Backlog.{Backlog}
use Rattle.fluid_reference.specs.Slots.{want_of}
use Rattle.fluid_reference.proofs.sharing.note_wants.Goals as goal

abbrev wanted : ℕ → ℕ → Backlog
wanted units weight = record { units = units; weight = weight }

pub loop-t-preserved : goal.loop-t-preserved
loop-t-preserved c =
    c.in_ok-push.ensures.items
    ∙ (ap (λ u. c.loop-t.wants.items ++ wanted u (get_or c.args.weights.now (get_or c.args.tenants.now c.loop-t.t-index 0) 0) ∷ []) c.saturating_sub.ensures
    ∙ (ap (λ l. l ++ want_of c.args.costs.now c.args.served.now c.args.weights.now (get_or c.args.tenants.now c.loop-t.t-index 0) ∷ []) c.loop-t.invariant
    ∙ sym (map_more (want_of c.args.costs.now c.args.served.now c.args.weights.now) c.args.tenants.now c.loop-t.t-index 0 c.loop-t-test.true)))

pub returns : goal.returns
returns c = c.loop-t.invariant ∙ ap (map (want_of c.args.costs.now c.args.served.now c.args.weights.now)) (take_all c.loop-t.t-index c.args.tenants.now c.loop-t-test.false)
