use Rattle.std.proofs.Common.{◌≡◌, ◌∙◌, arith, append_assoc}
use Rattle.std.proofs.lemmas.Int.{ints}
use Rattle.std.proofs.lemmas.Result.{IfOk-weaker}
use Rattle.std.specs.Int.{w128}
use mir.Val.{to_z, of_z}
use Rattle.twodfq_main.proofs.statuses.line.Goals as goal

pub returns : goal.returns
returns c =
    let vtime : to_z w128 (of_z w128 c.args.status.vtime) ≡ c.args.status.vtime = omega (arith, ints) in
    IfOk-weaker c.format.result _ _ (λ line is. is ∙ simp (append_assoc, vtime)) c.format.ensures.ok
