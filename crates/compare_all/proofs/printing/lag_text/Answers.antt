use Rattle.std.proofs.Common.{◌≡◌, ◌∙◌, arith, append_assoc}
use Rattle.std.proofs.lemmas.Int.{ints}
use Rattle.std.proofs.lemmas.Result.{IfOk-weaker}
use Rattle.std.specs.Int.{w64}
use mir.Val.{to_z, of_z}
use Rattle.compare_all.proofs.printing.lag_text.Goals as goal

pub returns : goal.returns
returns c =
    let least : to_z w64 (of_z w64 c.args.row.least) ≡ c.args.row.least = omega (arith, ints) in
    let greatest : to_z w64 (of_z w64 c.args.row.greatest) ≡ c.args.row.greatest = omega (arith, ints) in
    IfOk-weaker c.format.result _ _ (λ line is. is ∙ simp (append_assoc, least, greatest)) c.format.ensures.ok
