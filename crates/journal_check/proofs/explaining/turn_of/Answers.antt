use Rattle.std.proofs.Common.{◌≡◌, ◌∙◌, arith, refl, subst, ap}
use Rattle.std.proofs.lemmas.Int.{ints}
use Rattle.std.specs.Int.{w128}
use mir.Val.{to_z, of_z}
use Rattle.fq_model.specs.declared.config.Config.{Config}
use Rattle.fq_model.specs.History.{history_of}
use Rattle.fq_model.specs.Rules.{Fits}
use Rattle.journal_check.proofs.Turns.{turn_told}
use Rattle.journal_check.proofs.explaining.turn_of.Goals as goal

pub invariant_of-turn : goal.invariant_of-turn
invariant_of-turn g c =
    let at = c.args.scheduler.now in
    let fits = subst (Fits at.config (history_of at.past) c.args.given.moment) c.requires.takes.takes c.requires.legal.3 in
    omega (arith, fits.worker_known, c.pool.ensures)

pub returns : goal.returns
returns g c =
    let at = c.args.scheduler.now in
    let v = c.virtual_time_at-vtime.ensures in
    let back : to_z w128 (of_z w128 c.virtual_time_at-vtime.result) ≡ c.virtual_time_at-vtime.result = omega (arith, ints, v.low, v.high) in
    turn_told at.config (history_of at.past) c.args.given c.args.worker c.requires.legal c.policy.result c.pool.result c.virtual_time_at-vtime.result _ c.as_slice.result.now _
    (c.policy.ensures.value ∙ ap (λ (B : Config). B.policy) c.config.ensures)
    c.pool.ensures v.value back (c.as_slice.ensures.value ∙ c.in_ok-heads.ensures c.args.given.moment) refl refl refl c.in_ok-rows.ensures
