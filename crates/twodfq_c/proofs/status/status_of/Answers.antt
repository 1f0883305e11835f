use Rattle.std.proofs.Common.{◌≡◌, ◌∙◌, arith, subst}
use Rattle.std.proofs.lemmas.Int.{ints}
use Rattle.std.specs.Int.{w128}
use mir.Val.{to_z, of_z}
use Rattle.fq_model.specs.History.{history_of}
use Rattle.twodfq_c.specs.Statuses.{TellsStatus}
use Rattle.twodfq_c.proofs.Standing.{same_status}
use Rattle.twodfq_c.proofs.status.status_of.Goals as goal

pub returns : goal.returns
returns c =
    let back : to_z w128 (of_z w128 c.virtual_time.result) ≡ c.virtual_time.result = omega (arith, ints, c.virtual_time.ensures.low, c.virtual_time.ensures.high) in
    subst (λ s. TellsStatus s c.of.result) (same_status c.args.served.now.config (history_of c.args.served.now.past) c.status.result _ c.status.ensures (back ∙ c.virtual_time.ensures.value)) c.of.ensures
