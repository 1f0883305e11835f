use Rattle.std.proofs.Common.{◌≡◌, ◌∙◌, arith}
use Rattle.std.proofs.lemmas.Int.{ints}
use Rattle.std.proofs.lemmas.Result.{IfOk-weaker}
use Rattle.std.specs.Int.{w128}
use mir.Val.{to_z, of_z}
use Rattle.lead_texts.proofs.Leads.{ever_whole}
use Rattle.lead_texts.proofs.leading.ever_line.Goals as goal

pub returns : goal.returns
returns c =
    let largest : to_z w128 (of_z w128 c.args.gap.largest) ≡ c.args.gap.largest = omega (arith, ints) in
    let bound : to_z w128 (of_z w128 c.args.gap.bound) ≡ c.args.gap.bound = omega (arith, ints) in
    let ever : to_z w128 (of_z w128 c.args.ever) ≡ c.args.ever = omega (arith, ints) in
    IfOk-weaker c.format.result _ _ (λ line is. is ∙ rw (largest, bound, ever) (ever_whole c.args.of.now c.args.over.now c.args.gap.largest c.args.gap.bound c.args.ever)) c.format.ensures.ok
