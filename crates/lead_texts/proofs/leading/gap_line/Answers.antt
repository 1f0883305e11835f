use Rattle.std.proofs.Common.{◌≡◌, ◌∙◌, arith, append_assoc}
use Rattle.std.proofs.lemmas.Int.{ints}
use Rattle.std.proofs.lemmas.Result.{IfOk-weaker}
use Rattle.std.specs.Int.{w128}
use mir.Val.{to_z, of_z}
use Rattle.lead_texts.proofs.leading.gap_line.Goals as goal

pub returns : goal.returns
returns c =
    let largest : to_z w128 (of_z w128 c.args.gap.largest) ≡ c.args.gap.largest = omega (arith, ints) in
    let bound : to_z w128 (of_z w128 c.args.gap.bound) ≡ c.args.gap.bound = omega (arith, ints) in
    IfOk-weaker c.format.result _ _ (λ line is. is ∙ simp (append_assoc, largest, bound)) c.format.ensures.ok
